use Rattle.std.proofs.Common.{◌≤◌, ◌-◌, arith}
use Rattle.std.proofs.lemmas.Grind.{common_steps}
use Rattle.extent_lists.specs.Rows.{begin_at}
use Rattle.extent_evaluation.proofs.NearestLemmas.{count_within}
use Rattle.extent_evaluation.proofs.nearest.begins_below.Goals as goal

pub returns-then-count-near-clause-within : goal.returns-then-count-near-clause-within
returns-then-count-near-clause-within c =
    let past : c.args.top ≤ begin_at c.args.ys.now (c.loop-count.count - 1) = grind (arith, common_steps) in
    let found = c.count_below.ensures in
    let within = count_within c.args.ys.now c.requires.rising c.args.top c.count_below.result c.loop-count.count (omega arith) (omega arith) past found.within found.last in
    omega (arith, within)
