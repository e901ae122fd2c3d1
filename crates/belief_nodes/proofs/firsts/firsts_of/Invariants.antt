use Rattle.std.proofs.Common.{◌≡◌, length}
use Rattle.belief_nodes.proofs.firsts.firsts_of.Given as goal

abbrev pub invariant-loop-number : goal.invariant-loop-number
invariant-loop-number l = length l.firsts.items ≡ l.number
