use Rattle.std.proofs.Common.{◌≡◌, ◌∙◌, ◌≤◌, ◌+◌, ◌/◌, ◌++◌, ℕ, List, Bool, length, subst, ap, arith, Option, refl, IfSome}
use Rattle.std.proofs.lemmas.Result.{err_from_is_err_and}
use Rattle.ri_base.specs.Faults.{IsOutside}
use Rattle.store_ends.specs.Files.{Files}
use Rattle.disk_index.specs.Cache.{IsCacheBacked}
use Rattle.disk_index.specs.Parts.{IsPartBacked, IsPartIntact, reads}
use Rattle.disk_index.specs.QuietLaws.{IsQuiet-then}
use Rattle.disk_index.proofs.TogetherLemmas.{AllKept-then}
use Rattle.merge_job.specs.Range.{IsRangeNow}
use Rattle.merge_job.specs.Walk.{entries, rest_in}
use Rattle.merge_job.proofs.CopyLemmas.{tokens-left}
use Rattle.merge_job.proofs.KeepLemmas.{all-backed, fault-before}
use Rattle.merge_job.proofs.copying.copy_part.Goals as goal

below-goal : (n r g k : ℕ) → (r ≡ g → ⊥) → r ≡ n → n ≤ g → k ≤ n + 1 → k ≤ g
below-goal n r g k t e p m = grind arith

pub copy_one-requires-clause-within : goal.copy_one-requires-clause-within
copy_one-requires-clause-within g c =
    let same = ap (λ (l : List Bool). length l) c.marks.ensures.marks in
    omega (arith, same, c.marks.ensures.whole, c.len-i-end.ensures, c.loop-i-test.true)

pub copy_one-requires-clause-tokens : goal.copy_one-requires-clause-tokens
copy_one-requires-clause-tokens g c =
    tokens-left c.args.copied.now.docs c.loop-i.copied.docs (rest_in entries c.args.marked.now c.args.id.now) (rest_in entries c.args.marked.now c.loop-i.i) c.loop-i.invariant.entries c.requires.tokens

-- ---- a document that can't be copied

pub returns-in_err-copy_one-clause-cache : goal.returns-in_err-copy_one-clause-cache
returns-in_err-copy_one-clause-cache g c = AllKept-then c.args.cache.now c.loop-i.cache c.copy_one.new.cache c.loop-i.invariant.cache c.copy_one.ensures.cache

pub returns-in_err-copy_one-clause-honest : goal.returns-in_err-copy_one-clause-honest
returns-in_err-copy_one-clause-honest g c = λ intact cached.
    let inv = c.loop-i.invariant in
    let m = c.args.marked.now in
    let p = err_from_is_err_and c.from_residual.result c.from_residual.ensures.1 in
    rw (p.1, p.2) (subst (λ (f : Option Files). IsPartIntact f m.source → IsCacheBacked f c.loop-i.cache → IsOutside c.in_err-copy_one.field-0.0) inv.quiet.same_files c.in_err-copy_one.ensures.honest
    intact (all-backed (g.T.Store.files c.args.store.now) c.args.cache.now c.loop-i.cache inv.cache cached))

pub returns-in_err-copy_one-clause-fault : goal.returns-in_err-copy_one-clause-fault
returns-in_err-copy_one-clause-fault g c = λ f told.
    let p = err_from_is_err_and c.from_residual.result c.from_residual.ensures.1 in
    rw (p.1, p.2) (
      c.loop-i.i / 64,
      fault-before f c.args.cache.now c.loop-i.cache c.args.marked.now.source (c.loop-i.i / 64) c.in_err-copy_one.field-0.0 c.loop-i.invariant.cache
          (c.in_err-copy_one.ensures.fault f (c.loop-i.invariant.quiet.same_files ∙ told)),
    )

-- ---- a document that is copied

pub loop-i-preserved : goal.loop-i-preserved
loop-i-preserved g c =
    let inv = c.loop-i.invariant in
    let m = c.args.marked.now in
    let one = c.in_ok-copy_one.ensures in
    let told = g.T.Store.files c.args.store.now in
    let stay : g.T.Store.files c.loop-i.store ≡ told = inv.quiet.same_files in
    record {
      undamaged = c.in_ok-copy_one.ensures.undamaged ∙ c.loop-i.invariant.undamaged;
      at = refl;
      entries = one.entries ∙ inv.entries;
      exact = λ backed cached.
          subst (λ (f : Option Files). IsPartBacked f m.source → IsCacheBacked f c.loop-i.cache → IfSome c.loop-i.last (IsRangeNow f m.source)
          → c.copy_one.new.copied.docs ++ rest_in (reads f) m (c.loop-i.i + 1) ≡ c.loop-i.copied.docs ++ rest_in (reads f) m c.loop-i.i) stay one.exact
          backed (all-backed told c.args.cache.now c.loop-i.cache inv.cache cached) (inv.range_now backed cached) ∙ inv.exact backed cached;
      range = one.range;
      range_now = λ backed cached.
          subst (λ (f : Option Files). IsPartBacked f m.source → IsCacheBacked f c.loop-i.cache → IfSome c.loop-i.last (IsRangeNow f m.source) → IfSome c.copy_one.new.last (IsRangeNow f m.source)) stay one.range_now
          backed (all-backed told c.args.cache.now c.loop-i.cache inv.cache cached) (inv.range_now backed cached);
      goal = below-goal _ _ _ _ c.if-len-goal.false c.len.ensures inv.goal c.copy_one.ensures.count;
      most = c.copy_one.ensures.most ∙ inv.most;
      cache = AllKept-then c.args.cache.now c.loop-i.cache c.copy_one.new.cache inv.cache c.copy_one.ensures.cache;
      quiet = IsQuiet-then _ _ _ _ _ _ g.T.Store.faults _ _ _ inv.quiet c.copy_one.ensures.quiet;
      later = (let l = inv.later in let k = c.copy_one.ensures.later in omega (arith, l, k));
      same = one.none (λ is. absurd cc) ∙ inv.same;
    }

pub returns-clause-done : goal.returns-clause-done
returns-clause-done g c _ =
    let same = ap (λ (l : List Bool). length l) c.marks.ensures.marks in
    let at = c.loop-i.invariant.at in
    omega (arith, same, at, c.marks.ensures.whole, c.len-i-end.ensures, c.loop-i-test.false)
