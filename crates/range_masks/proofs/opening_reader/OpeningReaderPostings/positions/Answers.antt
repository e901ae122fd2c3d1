use Rattle.std.proofs.Common.{◌≡◌, ◌<◌, List, ℕ, Option, Some, IfSome, inl, inr, length, ap, sym, subst, refl, rules}
use Rattle.std.specs.List.{All}
use Rattle.std.specs.List.Sorted.{IsStrictlyIncreasing}
use Rattle.std.specs.Option.{is_some}
use Rattle.std.proofs.lemmas.Result.{IfOk-weaker}
use Rattle.ri_base.specs.Collection.{document_at}
use Rattle.store_ends.specs.Files.{Files}
use Rattle.seg_codec.specs.Blocks.{tokens_of}
use Rattle.disk_index.specs.Cache.{IsCacheBacked}
use Rattle.disk_index.specs.Faults.{ArePlacesIn}
use Rattle.disk_index.specs.Parts.{IsPartBacked, IsPartIntact, outlines_of, reads, source_of}
use Rattle.disk_index.specs.QuietLaws.{IsPartIntact-backed}
use Rattle.disk_index.proofs.BackedLemmas.{IsCacheBacked-kept}
use Rattle.disk_index.proofs.ReadableLemmas.{IsReadableOf-places}
use Rattle.disk_index.proofs.RebuiltLemmas.{reads-length}
use Rattle.range_masks.specs.Held.{AreAnswersOf, answer}
use Rattle.range_masks.proofs.EntryLemmas.{tokens-read}
use Rattle.range_masks.proofs.HeldLemmas.{answers-fit}
use Rattle.range_masks.proofs.opening_reader.OpeningReaderPostings.positions.Goals as goal

pub positions-requires : goal.positions-requires
positions-requires g c = subst (λ n. c.args.id < n) (reads-length (g.T.Store.files c.args.self.now.store.now) (source_of c.args.self.now.part.now)) c.requires

pub returns-in_ok-to_vec-in-Some-clause-rising : goal.returns-in_ok-to_vec-in-Some-clause-rising
returns-in_ok-to_vec-in-Some-clause-rising g c =
    let s = c.args.self.now in
    let outlines = outlines_of (source_of s.part.now) in
    let told : answer s.held.now c.args.term.now c.args.id ≡ Some c.in-Some.places.now = search rules in
    let copied : c.in-Some.places.now ≡ c.of.result = search rules in
    let are : ArePlacesIn (tokens_of outlines c.args.id) c.in-Some.places.now =
    subst (λ (o : Option (List ℕ)). IfSome o (ArePlacesIn (tokens_of outlines c.args.id))) told (answers-fit outlines s.held.now c.args.term.now c.args.id s.fits) in
    subst (λ (ps : List ℕ). IsStrictlyIncreasing ps) copied are.rising

pub returns-in_ok-to_vec-in-Some-clause-below : goal.returns-in_ok-to_vec-in-Some-clause-below
returns-in_ok-to_vec-in-Some-clause-below g c =
    let s = c.args.self.now in
    let outlines = outlines_of (source_of s.part.now) in
    let told : answer s.held.now c.args.term.now c.args.id ≡ Some c.in-Some.places.now = search rules in
    let copied : c.in-Some.places.now ≡ c.of.result = search rules in
    let are : ArePlacesIn (tokens_of outlines c.args.id) c.in-Some.places.now =
    subst (λ (o : Option (List ℕ)). IfSome o (ArePlacesIn (tokens_of outlines c.args.id))) told (answers-fit outlines s.held.now c.args.term.now c.args.id s.fits) in
    subst (λ (ps : List ℕ). All (λ p. p < length (document_at (reads (g.T.Store.files s.store.now) (source_of s.part.now)) c.args.id).tokens) ps) copied
    (subst (λ n. All (λ p. p < n) c.in-Some.places.now) (tokens-read (g.T.Store.files s.store.now) (source_of s.part.now) c.args.id) are.below)

pub returns-in-None-clause-keeps : goal.returns-in-None-clause-keeps
returns-in-None-clause-keeps g c =
    let part = source_of c.args.self.now.part.now in
    let quiet = c.positions.ensures.quiet in
    record {
      documents_stay = ap (λ (f : Option Files). reads f part) quiet.same_files;
      no_fault_lost = c.positions.ensures.later;
      sound_stays = λ s. subst (λ (f : Option Files). IsPartBacked f part × IsCacheBacked f c.positions.new.cache × AreAnswersOf (reads f part) c.args.self.now.held.now) (sym quiet.same_files)
          (s.0, IsCacheBacked-kept _ part c.args.self.now.cache.now c.positions.new.cache s.0 c.positions.ensures.cache s.1, s.2);
      intact_stays = λ s. subst (λ (f : Option Files). IsPartIntact f part × IsCacheBacked f c.positions.new.cache × AreAnswersOf (reads f part) c.args.self.now.held.now) (sym quiet.same_files)
          (s.0, IsCacheBacked-kept _ part c.args.self.now.cache.now c.positions.new.cache (IsPartIntact-backed _ part s.0) c.positions.ensures.cache s.1, s.2);
      stays_quiet = (record { same_part = refl; same_store = refl; same_cache = refl; store = quiet; no_fault_lost = c.positions.ensures.later; cache = c.positions.ensures.cache }, refl, refl);
    }

pub returns-in_ok-to_vec-in-Some-clause-told : goal.returns-in_ok-to_vec-in-Some-clause-told
returns-in_ok-to_vec-in-Some-clause-told g c =
    let told : answer c.args.self.now.held.now c.args.term.now c.args.id ≡ Some c.in-Some.places.now = search rules in
    inl (ap is_some told)

pub returns-in-None-clause-told : goal.returns-in-None-clause-told
returns-in-None-clause-told g c =
    let s = c.args.self.now in
    IfOk-weaker _ _ _ (λ places are. inr (IsReadableOf-places (g.T.Store.files s.store.now) s.cache.now (source_of s.part.now) c.args.term.now c.args.id places are)) c.positions.ensures.told
