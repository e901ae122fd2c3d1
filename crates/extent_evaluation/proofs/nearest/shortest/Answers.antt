use Rattle.std.proofs.Common.{◌-◌, slice_index, arith}
use Rattle.std.proofs.lemmas.Grind.{common_steps}
use Rattle.extent_evaluation.proofs.NearestLemmas.{before_stop}
use Rattle.extent_evaluation.proofs.nearest.shortest.Goals as goal
use Rattle.extent_evaluation.proofs.nearest.shortest.Goals.{then-next-eq0-via-then-next-eq0, then-next-eq0-via-else-next-eq0+then-begin-low}

pub returns-then-next-eq0-clause-before : goal.returns-then-next-eq0-clause-before
returns-then-next-eq0-clause-before c =
    let next = slice_index c.args.table.now (c.loop-count.count - 1) in
    before_stop c.args.ys.now c.requires.rising c.args.low c.loop-count.count next (omega arith) (omega arith) (c.requires.table.each (c.loop-count.count - 1) (omega arith))
    (λ some. elim c.then-next-eq0.branch [
      | then-next-eq0-via-then-next-eq0 w ↦ absurd (omega arith)
      | then-next-eq0-via-else-next-eq0+then-begin-low w ↦ grind (arith, common_steps)
    ])
