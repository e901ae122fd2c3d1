use Rattle.std.proofs.Common.{rules, ◌∙◌}
use Rattle.bounded_keys.proofs.Likenesses.{ended}
use Rattle.bounded_keys.proofs.likeness.by_beliefs.Goals as goal

pub returns : goal.returns
returns c = c.cmp.ensures ∙ ended c.args.some.now c.args.others.now c.loop-i.i (search rules) ∙ c.loop-i.invariant.left
