use Rattle.std.proofs.Common.{◌⊎◌, List, Contains, option_copied, inl, inr, subst}
use Rattle.std.proofs.lemmas.Result.{err_from_is_err_and}
use Rattle.ri_base.specs.Expression.{expr_tree}
use Rattle.disk_index.specs.Snapshots.{live}
use Rattle.counts.specs.Kept.{IsKept, IsNew, Kept, all_kept}
use Rattle.counts.proofs.KeptLemmas.{bounded-added, bounded-kept, sums-added, sums-right, sums-stay}
use Rattle.counts.proofs.ReadingLemmas.{fault-outside}
use Rattle.counts.proofs.leaf.Counts.leaf.Goals as goal

-- ---- the sums are kept

pub returns-in-Some-clause-exact : goal.returns-in-Some-clause-exact
returns-in-Some-clause-exact g c = λ backed cached are.
    let x = expr_tree c.args.expr.now in
    let context = option_copied c.args.context in
    sums-right (live (g.T.Store.files c.args.store.now) c.args.snapshot.now) c.args.generation c.args.self.now x context c.in-Some.stats are
    (subst (λ (l : List Kept). IsKept l c.args.generation x context c.in-Some.stats) c.self.view_is c.in-Some.ensures.found)

pub returns-in-Some-clause-kept : goal.returns-in-Some-clause-kept
returns-in-Some-clause-kept g c = λ backed cached are.
    sums-stay (live (g.T.Store.files c.args.store.now) c.args.snapshot.now) c.args.generation c.args.self.now (all_kept c.kept_at.new.sums.entries)
    (λ e h. subst (λ (l : List Kept). Contains l e) c.self.view_is (c.kept_at.ensures.stay e h)) are

pub returns-in-Some-clause-adds : goal.returns-in-Some-clause-adds
returns-in-Some-clause-adds g c = λ e h. inl (subst (λ (l : List Kept). Contains l e) c.self.view_is (c.kept_at.ensures.stay e h))

pub returns-in-Some-clause-range : goal.returns-in-Some-clause-range
returns-in-Some-clause-range g c =
    bounded-kept (all_kept c.self.inside.sums.entries) c.args.generation (expr_tree c.args.expr.now) (option_copied c.args.context) c.in-Some.stats c.self.invariant c.in-Some.ensures.found

pub returns-in-Some-clause-told : goal.returns-in-Some-clause-told
returns-in-Some-clause-told g c = inl (subst (λ (l : List Kept). IsKept l c.args.generation (expr_tree c.args.expr.now) (option_copied c.args.context) c.in-Some.stats) c.self.view_is c.in-Some.ensures.found)

-- ---- they can't be made

pub returns-in_err-stats-clause-kept : goal.returns-in_err-stats-clause-kept
returns-in_err-stats-clause-kept g c = λ backed cached are.
    sums-stay (live (g.T.Store.files c.args.store.now) c.args.snapshot.now) c.args.generation c.args.self.now (all_kept c.kept_at.new.sums.entries)
    (λ e h. subst (λ (l : List Kept). Contains l e) c.self.view_is (c.kept_at.ensures.stay e h)) are

pub returns-in_err-stats-clause-adds : goal.returns-in_err-stats-clause-adds
returns-in_err-stats-clause-adds g c = λ e h. inl (subst (λ (l : List Kept). Contains l e) c.self.view_is (c.kept_at.ensures.stay e h))

pub returns-in_err-stats-clause-honest : goal.returns-in_err-stats-clause-honest
returns-in_err-stats-clause-honest g c = λ backed cached.
    let p = err_from_is_err_and c.from_residual.result c.from_residual.ensures.1 in
    rw (p.1, p.2) (fault-outside (g.T.Store.files c.args.store.now) c.args.snapshot.now c.args.cache.now c.in_err-stats.field-0.0 backed cached c.in_err-stats.ensures.fault)

-- ---- they are made

pub returns-clause-kept : goal.returns-clause-kept
returns-clause-kept g c = λ backed cached are.
    let x = expr_tree c.args.expr.now in
    let context = option_copied c.args.context in
    let adds : (e : Kept) → Contains (all_kept c.keep.new.sums.entries) e → Contains c.args.self.now e ⊎ IsNew c.args.generation x context e c.in_ok-stats.stats = λ e h.
    elim (c.keep.ensures e h) [
      | inl mid ↦ inl (subst (λ (l : List Kept). Contains l e) c.self.view_is (c.kept_at.ensures.stay e mid))
      | inr own ↦ inr own
    ] in
    sums-added (live (g.T.Store.files c.args.store.now) c.args.snapshot.now) c.args.generation c.args.self.now (all_kept c.keep.new.sums.entries) x context c.in_ok-stats.stats adds
    (c.in_ok-stats.ensures.exact backed cached) are

pub returns-clause-adds : goal.returns-clause-adds
returns-clause-adds g c = λ e h. elim (c.keep.ensures e h) [
  | inl mid ↦ inl (subst (λ (l : List Kept). Contains l e) c.self.view_is (c.kept_at.ensures.stay e mid))
  | inr own ↦ inr own
]

pub returns-clause-told : goal.returns-clause-told
returns-clause-told g c = inr c.in_ok-stats.ensures.told

pub returns-clause-cache : goal.returns-clause-cache
returns-clause-cache g c = c.in_ok-stats.ensures.reads.cache

pub returns-clause-quiet : goal.returns-clause-quiet
returns-clause-quiet g c = c.in_ok-stats.ensures.reads.quiet

pub returns-clause-later : goal.returns-clause-later
returns-clause-later g c = c.in_ok-stats.ensures.reads.later

pub invariant_of-self-2 : goal.invariant_of-self-2
invariant_of-self-2 g c =
    bounded-added (all_kept c.kept_at.new.sums.entries) (all_kept c.keep.new.sums.entries) c.args.generation (expr_tree c.args.expr.now) (option_copied c.args.context) c.in_ok-stats.stats c.keep.ensures
    c.in_ok-stats.ensures.range (λ e h. c.self.invariant e (c.kept_at.ensures.stay e h))

pub invariant_of-self : goal.invariant_of-self
invariant_of-self g c = λ e h. c.self.invariant e (c.kept_at.ensures.stay e h)

pub invariant_of-self-in_err-stats : goal.invariant_of-self-in_err-stats
invariant_of-self-in_err-stats g c = λ e h. c.self.invariant e (c.kept_at.ensures.stay e h)
