use Rattle.std.proofs.Common.{◌≡◌, ◌-◌, ◌<◌, ◌≤◌, inl, inr, arith}
use Rattle.std.proofs.lemmas.Grind.{common_steps}
use Rattle.extent_lists.specs.Rows.{begin_at, end_at}
use Rattle.extent_evaluation.proofs.WindowLemmas.{IsLeastOf-tail, IsTail-more}
use Rattle.extent_evaluation.proofs.unordered.grown.Goals as goal

pub loop-from-preserved : goal.loop-from-preserved
loop-from-preserved c =
    let begins : c.args.low ≤ begin_at c.args.list.now (c.loop-from.from - 1) = grind (arith, common_steps) in
    let is : c.end.result ≡ end_at c.args.list.now (c.loop-from.from - 1) = grind (arith, common_steps) in
    rw c.lesser-least.ensures (IsTail-more c.args.list.now c.args.low c.loop-from.from c.loop-from.least c.end.result c.loop-from.invariant (omega arith) begins is)

pub returns-else-low-begin-clause-least : goal.returns-else-low-begin-clause-least
returns-else-low-begin-clause-least c =
    let stops : begin_at c.args.list.now (c.loop-from.from - 1) < c.args.low = grind (arith, common_steps) in
    IsLeastOf-tail c.args.list.now c.args.low c.requires.ascending c.loop-from.from c.loop-from.least c.loop-from.invariant (inr stops)

pub returns-after-loop-from-clause-least : goal.returns-after-loop-from-clause-least
returns-after-loop-from-clause-least c = IsLeastOf-tail c.args.list.now c.args.low c.requires.ascending c.loop-from.from c.loop-from.least c.loop-from.invariant (inl (omega arith))
