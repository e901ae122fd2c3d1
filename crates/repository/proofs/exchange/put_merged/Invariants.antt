use Rattle.std.proofs.Common.{◌≡◌, ◌++◌, map}
use Rattle.repository.specs.Merges.{held_part}
use Rattle.repository.proofs.exchange.put_merged.Given as goal

abbrev pub invariant-loop-new : goal.invariant-loop-new
invariant-loop-new l = l.parts.items ≡ l.initial.parts.items ++ map held_part l.yielded
