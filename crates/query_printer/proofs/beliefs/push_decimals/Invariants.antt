use Rattle.std.proofs.Common.{◌≡◌, ◌<◌, ◌≤◌, ◌^◌, ◌++◌}
use Rattle.query_printer.specs.Printed.{decimals_of}
use Rattle.query_printer.proofs.beliefs.push_decimals.Given as goal

abbrev pub invariant-loop-rest : goal.invariant-loop-rest
invariant-loop-rest l = (l.out.items ++ decimals_of l.left l.rest ≡ l.fn.out.items ++ decimals_of 9 l.fn.part) × (l.rest < 10 ^ l.left) × (l.left ≤ 9)

abbrev pub decreases-loop-rest : goal.decreases-loop-rest
decreases-loop-rest l = l.left
