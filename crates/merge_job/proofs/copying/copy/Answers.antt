use Rattle.std.proofs.Common.{◌≡◌, ◌∙◌, ◌≤◌, ◌<◌, ◌++◌, ℕ, subst, arith, Option, map, refl}
use Rattle.std.proofs.lemmas.Result.{err_from_is_err_and}
use Rattle.ri_base.specs.Faults.{IsOutside}
use Rattle.store_ends.specs.Files.{Files}
use Rattle.seg_codec.specs.Segment.{entry_of}
use Rattle.disk_index.specs.Cache.{IsCacheBacked}
use Rattle.disk_index.specs.Parts.{IsPartIntact, reads, size}
use Rattle.disk_index.specs.QuietLaws.{IsQuiet-then}
use Rattle.disk_index.proofs.AmongLemmas.{intact-at, there-at}
use Rattle.disk_index.proofs.RebuiltLemmas.{reads-length}
use Rattle.disk_index.proofs.TogetherLemmas.{AllKept-then}
use Rattle.merge_job.specs.Walk.{entries, rest}
use Rattle.merge_job.proofs.CopyLemmas.{all-copied, exact-at, in-part-at, to-next-at, tokens-left, tokens-part}
use Rattle.merge_job.proofs.KeepLemmas.{all-backed, fault-before}
use Rattle.merge_job.proofs.WalkLemmas.{length-entries}
use Rattle.merge_job.proofs.copying.copy.Goals as goal

not-goal : (n r g : ℕ) → (r ≡ g → ⊥) → r ≡ n → n ≤ g → n < g
not-goal n r g t e p = grind arith

pub copy_part-requires-clause-tokens : goal.copy_part-requires-clause-tokens
copy_part-requires-clause-tokens g c =
    let ms = c.args.parts.now in
    let inv = c.loop-number.invariant in
    let left = tokens-left c.args.copied.now.docs c.loop-number.copied.docs (rest entries ms c.args.place.now.part c.args.place.now.id) (rest entries ms c.loop-number.place.part c.loop-number.place.id) inv.entries c.requires.tokens in
    tokens-part ms c.loop-number.place.part c.loop-number.number c.index-parts-number.result c.loop-number-test.true inv.at c.index-parts-number.is c.loop-number.place.id _ left

-- ---- a part that can't be copied

pub returns-in_err-copy_part-clause-entries : goal.returns-in_err-copy_part-clause-entries
returns-in_err-copy_part-clause-entries g c =
    in-part-at c.args.parts.now c.loop-number.place.part c.loop-number.number c.index-parts-number.result c.loop-number-test.true c.loop-number.invariant.at c.index-parts-number.is
    entries c.loop-number.place.id c.copy_part.new.id _ _ _ c.copy_part.ensures.entries c.loop-number.invariant.entries

pub returns-in_err-copy_part-clause-exact : goal.returns-in_err-copy_part-clause-exact
returns-in_err-copy_part-clause-exact g c =
    exact-at c.args.parts.now c.loop-number.place.part c.loop-number.number c.index-parts-number.result c.loop-number-test.true c.loop-number.invariant.at c.index-parts-number.is
    (g.T.Store.files c.args.store.now) (g.T.Store.files c.loop-number.store) c.args.cache.now c.loop-number.cache c.loop-number.place.id c.copy_part.new.id _ _ _
    c.loop-number.invariant.quiet.same_files c.loop-number.invariant.cache c.copy_part.ensures.exact c.loop-number.invariant.exact

pub returns-in_err-copy_part-clause-cache : goal.returns-in_err-copy_part-clause-cache
returns-in_err-copy_part-clause-cache g c = AllKept-then c.args.cache.now c.loop-number.cache c.copy_part.new.cache c.loop-number.invariant.cache c.copy_part.ensures.cache

pub returns-in_err-copy_part-clause-honest : goal.returns-in_err-copy_part-clause-honest
returns-in_err-copy_part-clause-honest g c = λ intact cached.
    let inv = c.loop-number.invariant in
    let m = c.index-parts-number.result in
    let told = g.T.Store.files c.args.store.now in
    let p = err_from_is_err_and c.from_residual.result c.from_residual.ensures.1 in
    rw (p.1, p.2) (subst (λ (f : Option Files). IsPartIntact f m.source → IsCacheBacked f c.loop-number.cache → IsOutside c.in_err-copy_part.field-0.0) inv.quiet.same_files c.in_err-copy_part.ensures.honest
    (intact-at c.args.parts.now c.loop-number.number m c.loop-number-test.true c.index-parts-number.is told intact)
    (all-backed told c.args.cache.now c.loop-number.cache inv.cache cached))

pub returns-in_err-copy_part-clause-fault : goal.returns-in_err-copy_part-clause-fault
returns-in_err-copy_part-clause-fault g c = λ f told.
    let inv = c.loop-number.invariant in
    let m = c.index-parts-number.result in
    let p = err_from_is_err_and c.from_residual.result c.from_residual.ensures.1 in
    let fault = c.in_err-copy_part.ensures.fault f (inv.quiet.same_files ∙ told) in
    rw (p.1, p.2) (
      m,
      there-at c.args.parts.now c.loop-number.number m c.loop-number-test.true c.index-parts-number.is,
      (fault.0, fault-before f c.args.cache.now c.loop-number.cache m.source fault.0 c.in_err-copy_part.field-0.0 inv.cache fault.1),
    )

-- ---- the last part that is wanted

pub returns-then-len-goal-clause-entries : goal.returns-then-len-goal-clause-entries
returns-then-len-goal-clause-entries g c =
    in-part-at c.args.parts.now c.loop-number.place.part c.loop-number.number c.index-parts-number.result c.loop-number-test.true c.loop-number.invariant.at c.index-parts-number.is
    entries c.loop-number.place.id c.copy_part.new.id _ _ _ c.copy_part.ensures.entries c.loop-number.invariant.entries

pub returns-then-len-goal-clause-exact : goal.returns-then-len-goal-clause-exact
returns-then-len-goal-clause-exact g c =
    exact-at c.args.parts.now c.loop-number.place.part c.loop-number.number c.index-parts-number.result c.loop-number-test.true c.loop-number.invariant.at c.index-parts-number.is
    (g.T.Store.files c.args.store.now) (g.T.Store.files c.loop-number.store) c.args.cache.now c.loop-number.cache c.loop-number.place.id c.copy_part.new.id _ _ _
    c.loop-number.invariant.quiet.same_files c.loop-number.invariant.cache c.copy_part.ensures.exact c.loop-number.invariant.exact

pub returns-then-len-goal-clause-cache : goal.returns-then-len-goal-clause-cache
returns-then-len-goal-clause-cache g c = AllKept-then c.args.cache.now c.loop-number.cache c.copy_part.new.cache c.loop-number.invariant.cache c.copy_part.ensures.cache

-- ---- a part that is copied to its end

pub loop-number-preserved : goal.loop-number-preserved
loop-number-preserved g c =
    let inv = c.loop-number.invariant in
    let ms = c.args.parts.now in
    let m = c.index-parts-number.result in
    let q = c.loop-number.place.part in
    let n = c.loop-number.number in
    let told = g.T.Store.files c.args.store.now in
    let xs = c.loop-number.copied.docs in
    let ys = c.copy_part.new.copied.docs in
    let all_entries = map entry_of c.args.copied.now.docs ++ rest entries ms c.args.place.now.part c.args.place.now.id in
    let all_docs = c.args.copied.now.docs ++ rest (reads told) ms c.args.place.now.part c.args.place.now.id in
    let past : size m.source ≤ c.copy_part.new.id = c.in_ok-copy_part.ensures.done (not-goal _ _ _ c.if-len-goal.false c.len.ensures c.copy_part.ensures.goal) in
    record {
      undamaged = c.in_ok-copy_part.ensures.undamaged ∙ c.loop-number.invariant.undamaged;
      at = refl;
      entries = to-next-at ms q n m c.loop-number-test.true inv.at c.index-parts-number.is entries c.copy_part.new.id (map entry_of ys) all_entries (let l = length-entries m.source in omega (arith, l, past))
          (in-part-at ms q n m c.loop-number-test.true inv.at c.index-parts-number.is entries c.loop-number.place.id c.copy_part.new.id (map entry_of xs) (map entry_of ys) all_entries c.copy_part.ensures.entries inv.entries);
      exact = λ backed cached.
          to-next-at ms q n m c.loop-number-test.true inv.at c.index-parts-number.is (reads told) c.copy_part.new.id ys all_docs (let l = reads-length told m.source in omega (arith, l, past))
          (exact-at ms q n m c.loop-number-test.true inv.at c.index-parts-number.is told (g.T.Store.files c.loop-number.store) c.args.cache.now c.loop-number.cache c.loop-number.place.id c.copy_part.new.id xs ys all_docs
          inv.quiet.same_files inv.cache c.copy_part.ensures.exact inv.exact backed cached);
      goal = c.copy_part.ensures.goal;
      most = c.copy_part.ensures.most ∙ inv.most;
      cache = AllKept-then c.args.cache.now c.loop-number.cache c.copy_part.new.cache inv.cache c.copy_part.ensures.cache;
      quiet = IsQuiet-then _ _ _ _ _ _ g.T.Store.faults _ _ _ inv.quiet c.copy_part.ensures.quiet;
      later = (let l = inv.later in let k = c.copy_part.ensures.later in omega (arith, l, k));
      same = c.in_ok-copy_part.ensures.none (λ is. absurd cc) ∙ inv.same;
    }

pub returns-clause-done : goal.returns-clause-done
returns-clause-done g c =
    let inv = c.loop-number.invariant in
    all-copied c.args.copied.now.docs c.loop-number.copied.docs c.args.parts.now c.args.place.now.part c.args.place.now.id c.loop-number.place.part c.loop-number.place.id c.args.goal inv.entries
    (let t = c.loop-number-test.false in let a = inv.at in omega (arith, t, a)) c.requires.enough inv.goal
