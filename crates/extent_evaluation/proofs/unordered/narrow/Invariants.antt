use Rattle.std.proofs.Common.{◌≡◌, ◌+◌, nat_le, filter, take}
use Rattle.extent_evaluation.proofs.unordered.narrow.Given as goal

abbrev pub invariant-loop-x : goal.invariant-loop-x
invariant-loop-x l = l.out.items ≡ filter (λ x. nat_le x.end (x.begin + l.n)) (take l.x-index l.xs)
