use Rattle.std.proofs.Common.{◌≡◌}
use Rattle.query_check.specs.Multiples.{gcd}
use Rattle.query_check.proofs.multiples.greatest_common_divisor.Given as goal

abbrev pub invariant-loop-b : goal.invariant-loop-b
invariant-loop-b l = gcd l.a l.b ≡ gcd l.fn.a l.fn.b

abbrev pub decreases-loop-b : goal.decreases-loop-b
decreases-loop-b l = l.b
