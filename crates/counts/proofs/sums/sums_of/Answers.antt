use Rattle.std.proofs.Common.{List, option_copied, sum_by, ap, subst, sym, ◌∙◌, arith}
use Rattle.std.proofs.lemmas.Result.{err_from_is_err_and}
use Rattle.ri_base.specs.Expression.{expr_tree}
use Rattle.disk_index.specs.Snapshots.{AreBacked, IsFileAmong, IsSnapshot, Marked, live}
use Rattle.counts.specs.Reading.{IsFaultOf, OnlyReads}
use Rattle.counts.specs.Sums.{counted_tokens, occurrences}
use Rattle.counts.specs.Told.{ArePartsTold}
use Rattle.counts.proofs.sums.sums_of.Goals as goal

pub in_parts-requires : goal.in_parts-requires
in_parts-requires g c = subst IsSnapshot (sym c.parts.ensures.parts) c.parts.ensures.bounds

pub returns-in_err-cf-clause-fault : goal.returns-in_err-cf-clause-fault
returns-in_err-cf-clause-fault g c =
    let p = err_from_is_err_and c.from_residual.result c.from_residual.ensures.1 in
    rw (p.1, p.2) (subst (λ (ms : List Marked). IsFaultOf (g.T.Store.files c.args.store.now) ms c.args.cache.now c.in_err-cf.field-0.0) c.parts.ensures.parts c.in_err-cf.ensures.fault)

pub returns-in_err-cf-clause-reads : goal.returns-in_err-cf-clause-reads
returns-in_err-cf-clause-reads g c =
    subst (λ (ms : List Marked). OnlyReads g.T.Store.files g.T.Store.layers g.T.Store.clock g.T.Store.since g.T.Store.longest g.T.Store.held g.T.Store.faults (IsFileAmong ms) c.args.store.now c.in_parts.new.store c.args.cache.now c.in_parts.new.cache)
    c.parts.ensures.parts c.in_err-cf.ensures.reads

pub returns-clause-reads : goal.returns-clause-reads
returns-clause-reads g c =
    subst (λ (ms : List Marked). OnlyReads g.T.Store.files g.T.Store.layers g.T.Store.clock g.T.Store.since g.T.Store.longest g.T.Store.held g.T.Store.faults (IsFileAmong ms) c.args.store.now c.in_parts.new.store c.args.cache.now c.in_parts.new.cache)
    c.parts.ensures.parts c.in_ok-cf.ensures.reads

pub returns-clause-exact : goal.returns-clause-exact
returns-clause-exact g c = λ backed cached.
    let told = g.T.Store.files c.args.store.now in
    let cf = c.in_ok-cf.ensures.exact (subst (AreBacked told) (sym c.parts.ensures.parts) backed) cached
    ∙ ap (λ (ms : List Marked). sum_by (occurrences (expr_tree c.args.expr.now) (option_copied c.args.context)) (live told ms)) c.parts.ensures.parts in
    let total = c.total_of-total.ensures.exact told in
    cc

pub returns-clause-range : goal.returns-clause-range
returns-clause-range g c =
    let told = g.T.Store.files c.args.store.now in
    let same = ap (λ (ms : List Marked). sum_by (counted_tokens (option_copied c.args.context)) (live told ms)) c.parts.ensures.parts in
    record { part = omega (arith, c.in_ok-cf.ensures.few, c.total_of-total.ensures.exact told, same); few = c.total_of-total.ensures.most }

pub returns-clause-told : goal.returns-clause-told
returns-clause-told g c = subst (ArePartsTold (g.T.Store.files c.args.store.now) c.args.cache.now (expr_tree c.args.expr.now)) c.parts.ensures.parts c.in_ok-cf.ensures.told
