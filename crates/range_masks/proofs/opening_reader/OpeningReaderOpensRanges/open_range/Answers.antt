use Rattle.std.proofs.Common.{◌≡◌, ◌/◌, ◌⊎◌, ℕ, inr, ap, sym, subst, refl, Option}
use Rattle.std.proofs.lemmas.List.Elements.{All-weaker}
use Rattle.store_ends.specs.Files.{Files}
use Rattle.disk_index.specs.Cache.{IsCacheBacked}
use Rattle.disk_index.specs.Parts.{IsPartBacked, IsPartIntact, IsReadableIn, IsReadableOf, reads, source_of}
use Rattle.disk_index.specs.QuietLaws.{IsPartIntact-backed}
use Rattle.disk_index.proofs.BackedLemmas.{IsCacheBacked-kept}
use Rattle.range_masks.specs.Held.{AreAnswersOf, IsAnswered}
use Rattle.range_masks.proofs.ToldLemmas.{readable-each}
use Rattle.range_masks.proofs.opening_reader.OpeningReaderOpensRanges.open_range.Goals as goal

pub returns-clause-keeps : goal.returns-clause-keeps
returns-clause-keeps g c =
    let part = source_of c.args.self.now.part.now in
    let quiet = c.open.ensures.quiet in
    record {
      documents_stay = ap (λ (f : Option Files). reads f part) quiet.same_files;
      no_fault_lost = c.open.ensures.later;
      sound_stays = λ s. subst (λ (f : Option Files). IsPartBacked f part × IsCacheBacked f c.open.new.cache × AreAnswersOf (reads f part) c.in_ok-opened.opened) (sym quiet.same_files)
          (s.0, IsCacheBacked-kept _ part c.args.self.now.cache.now c.open.new.cache s.0 c.open.ensures.cache s.1, c.in_ok-opened.ensures.answers s.0 s.1);
      intact_stays = λ s. subst (λ (f : Option Files). IsPartIntact f part × IsCacheBacked f c.open.new.cache × AreAnswersOf (reads f part) c.in_ok-opened.opened) (sym quiet.same_files)
          (s.0, IsCacheBacked-kept _ part c.args.self.now.cache.now c.open.new.cache (IsPartIntact-backed _ part s.0) c.open.ensures.cache s.1, c.in_ok-opened.ensures.answers (IsPartIntact-backed _ part s.0) s.1);
      stays_quiet = (record { same_part = refl; same_store = refl; same_cache = refl; store = quiet; no_fault_lost = c.open.ensures.later; cache = c.open.ensures.cache }, refl);
    }

pub returns-in_err-opened-clause-keeps : goal.returns-in_err-opened-clause-keeps
returns-in_err-opened-clause-keeps g c =
    let part = source_of c.args.self.now.part.now in
    let quiet = c.open.ensures.quiet in
    record {
      documents_stay = ap (λ (f : Option Files). reads f part) quiet.same_files;
      no_fault_lost = c.open.ensures.later;
      sound_stays = λ s. subst (λ (f : Option Files). IsPartBacked f part × IsCacheBacked f c.open.new.cache × AreAnswersOf (reads f part) c.args.self.now.held.now) (sym quiet.same_files)
          (s.0, IsCacheBacked-kept _ part c.args.self.now.cache.now c.open.new.cache s.0 c.open.ensures.cache s.1, s.2);
      intact_stays = λ s. subst (λ (f : Option Files). IsPartIntact f part × IsCacheBacked f c.open.new.cache × AreAnswersOf (reads f part) c.args.self.now.held.now) (sym quiet.same_files)
          (s.0, IsCacheBacked-kept _ part c.args.self.now.cache.now c.open.new.cache (IsPartIntact-backed _ part s.0) c.open.ensures.cache s.1, s.2);
      stays_quiet = (record { same_part = refl; same_store = refl; same_cache = refl; store = quiet; no_fault_lost = c.open.ensures.later; cache = c.open.ensures.cache }, refl);
    }

pub returns-clause-holds : goal.returns-clause-holds
returns-clause-holds g c sound other = c.in_ok-opened.ensures.each sound.0 sound.1

pub returns-clause-told : goal.returns-clause-told
returns-clause-told g c = λ other.
    let s = c.args.self.now in
    let told = g.T.Store.files s.store.now in
    All-weaker (λ t. IsReadableIn told s.cache.now (source_of s.part.now) t c.args.range) (λ t. (id : ℕ) → id / 64 ≡ c.args.range → IsAnswered s.held.now t id ⊎ IsReadableOf told s.cache.now (source_of s.part.now) t id)
    (λ t can id here. inr (readable-each told s.cache.now (source_of s.part.now) t c.args.range can id here)) c.args.terms.now c.in_ok-opened.ensures.told
