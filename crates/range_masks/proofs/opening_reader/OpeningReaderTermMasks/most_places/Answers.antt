use Rattle.std.proofs.Common.{◌≡◌, ◌/◌, ◌⊎◌, ℕ, Some, IfSome, inl, inr, ap, sym, subst, refl, rules, Option}
use Rattle.std.proofs.lemmas.Result.{IfOk-weaker}
use Rattle.store_ends.specs.Files.{Files}
use Rattle.disk_index.specs.Cache.{IsCacheBacked}
use Rattle.disk_index.specs.Parts.{IsPartBacked, IsPartIntact, IsReadableIn, IsReadableOf, reads, source_of}
use Rattle.disk_index.specs.QuietLaws.{IsPartIntact-backed}
use Rattle.disk_index.proofs.BackedLemmas.{IsCacheBacked-kept}
use Rattle.range_masks.specs.Held.{AreAnswersOf, IsAnswered, most_answer}
use Rattle.range_masks.specs.Most.{most_places}
use Rattle.range_masks.proofs.ToldLemmas.{answered-most, readable-each}
use Rattle.range_masks.proofs.opening_reader.OpeningReaderTermMasks.most_places.Goals as goal

pub returns-in-Some-clause-exact : goal.returns-in-Some-clause-exact
returns-in-Some-clause-exact g c = λ sound.
    let s = c.args.self.now in
    let told : most_answer s.held.now c.args.term.now c.args.range ≡ Some c.in-Some.most = search rules in
    subst (λ o. IfSome o (λ n. n ≡ most_places c.args.term.now c.args.range (reads (g.T.Store.files s.store.now) (source_of s.part.now)))) told (sound.2.most c.args.term.now c.args.range)

pub returns-in-None-clause-keeps : goal.returns-in-None-clause-keeps
returns-in-None-clause-keeps g c =
    let part = source_of c.args.self.now.part.now in
    let quiet = c.most_in_part.ensures.quiet in
    record {
      documents_stay = ap (λ (f : Option Files). reads f part) quiet.same_files;
      no_fault_lost = c.most_in_part.ensures.later;
      sound_stays = λ s. subst (λ (f : Option Files). IsPartBacked f part × IsCacheBacked f c.most_in_part.new.cache × AreAnswersOf (reads f part) c.args.self.now.held.now) (sym quiet.same_files)
          (s.0, IsCacheBacked-kept _ part c.args.self.now.cache.now c.most_in_part.new.cache s.0 c.most_in_part.ensures.cache s.1, s.2);
      intact_stays = λ s. subst (λ (f : Option Files). IsPartIntact f part × IsCacheBacked f c.most_in_part.new.cache × AreAnswersOf (reads f part) c.args.self.now.held.now) (sym quiet.same_files)
          (s.0, IsCacheBacked-kept _ part c.args.self.now.cache.now c.most_in_part.new.cache (IsPartIntact-backed _ part s.0) c.most_in_part.ensures.cache s.1, s.2);
      stays_quiet = (record { same_part = refl; same_store = refl; same_cache = refl; store = quiet; no_fault_lost = c.most_in_part.ensures.later; cache = c.most_in_part.ensures.cache }, refl, refl);
    }

pub returns-in-Some-clause-told : goal.returns-in-Some-clause-told
returns-in-Some-clause-told g c = λ id here.
    let held = c.args.self.now.held.now in
    let told : most_answer held c.args.term.now c.args.range ≡ Some c.in-Some.most = search rules in
    inl (answered-most held c.args.term.now c.args.range c.in-Some.most told id here)

pub returns-in-None-clause-told : goal.returns-in-None-clause-told
returns-in-None-clause-told g c =
    let s = c.args.self.now in
    let told = g.T.Store.files s.store.now in
    let p = source_of s.part.now in
    let t = c.args.term.now in
    IfOk-weaker c.most_in_part.result (λ n. IsReadableIn told s.cache.now p t c.args.range) (λ n. (id : ℕ) → id / 64 ≡ c.args.range → IsAnswered s.held.now t id ⊎ IsReadableOf told s.cache.now p t id)
    (λ n can id here. inr (readable-each told s.cache.now p t c.args.range can id here)) c.most_in_part.ensures.told
