use Rattle.std.proofs.lemmas.Result.{IfOk-weaker}
use Rattle.extent_evaluation.proofs.ChainLemmas.{Covers-joined}
use Rattle.extent_evaluation.proofs.ordered.joined.Goals as goal

pub returns : goal.returns
returns c = IfOk-weaker _ _ _
    (λ v covers. Covers-joined c.args.n c.args.xs.now c.in_ok-firsts.firsts.items c.args.later.now c.in_ok-found.found.items c.sort_by_begin.new.xs.items _ c.in_ok-firsts.ensures.same (rw c.deref.ensures.value at c.in_ok-found.ensures) c.sort_by_begin.ensures.same covers)
    (rw c.deref-2.ensures.value at c.least_ends.ensures)
