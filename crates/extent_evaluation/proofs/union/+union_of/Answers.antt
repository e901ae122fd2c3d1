use Rattle.std.proofs.lemmas.List.{take_rest}
use Rattle.std.proofs.lemmas.Result.{IfOk-weaker}
use Rattle.extent_evaluation.proofs.MergeLemmas.{union_halves}
use Rattle.extent_evaluation.proofs.union.+union_of.Goals as goal

pub returns : goal.returns
returns t c = IfOk-weaker _ _ _ (λ v m. union_halves _ _ _ _ _ c.in_ok-front.ensures (rw take_rest at c.in_ok-back.ensures) m) (rw (c.deref.ensures.value, c.deref-2.ensures.value) at c.merged.ensures)
