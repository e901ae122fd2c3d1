use Rattle.std.proofs.Common.{inl, inr, arith}
use Rattle.std.proofs.lemmas.Grind.{common_steps}
use Rattle.extent_evaluation.proofs.BandLemmas.{Lists-not_whole, Lists-whole}
use Rattle.extent_evaluation.proofs.band.whole_if_each.Goals as goal
use Rattle.extent_evaluation.proofs.band.whole_if_each.Goals.{then-length-gt0+then-has_each+in_ok-push, else-length-gt0, else-length-gt0-via-then-length-gt0+else-has_each, else-length-gt0-via-else-length-gt0}

pub returns : goal.returns
returns c = elim c.if-length-gt0.branch [
  | then-length-gt0+then-has_each+in_ok-push w ↦ Lists-whole c.args.length c.args.lists.now _ (omega arith) (w.has_each.ensures.0 w.if-has_each.true) (grind (arith, common_steps))
  | else-length-gt0 w ↦ Lists-not_whole c.args.length c.args.lists.now _ (elim w.else-length-gt0.branch [
    | else-length-gt0-via-then-length-gt0+else-has_each u ↦ inr (λ each. let yes = u.has_each.ensures.1 each in let no = u.if-has_each.false in cc)
    | else-length-gt0-via-else-length-gt0 u ↦ inl (omega arith)
  ]) (grind (arith, common_steps))
]
