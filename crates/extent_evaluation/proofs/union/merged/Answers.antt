use Rattle.std.proofs.Common.{◌≡◌, ◌≤◌, ◌⊎◌, length, inl, inr, arith}
use Rattle.std.proofs.lemmas.Grind.{common_steps}
use Rattle.extent_evaluation.proofs.MergeLemmas.{Lists-merge, merge, merge-ended}
use Rattle.extent_evaluation.proofs.union.merged.Goals as goal
use Rattle.extent_evaluation.proofs.union.merged.Goals.{then-loop-i-test+else-j-b, else-loop-i-test}

pub returns : goal.returns
returns c =
    let ended : (length c.args.a.now ≤ c.loop-i.i) ⊎ (length c.args.b.now ≤ c.loop-i.j) = elim c.loop-i-test.branch [
      | then-loop-i-test+else-j-b w ↦ inr (omega arith)
      | else-loop-i-test w ↦ inl (omega arith)
    ] in
    let rest = merge-ended c.args.a.now c.args.b.now c.loop-i.i c.loop-i.j ended in
    let is : c.extend_from_slice-2.new.self.items ≡ merge c.args.a.now c.args.b.now = grind (arith, common_steps) in
    Lists-merge _ _ _ c.requires.left c.requires.right is
