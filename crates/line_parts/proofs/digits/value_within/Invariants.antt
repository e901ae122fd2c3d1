use Rattle.std.proofs.Common.{◌≡◌, ◌≤◌, drop}
use Rattle.line_parts.specs.Digits.{value_from}
use Rattle.line_parts.proofs.digits.value_within.Given as goal

abbrev pub invariant-loop-digit : goal.invariant-loop-digit
invariant-loop-digit l = (value_from l.n (drop l.digit-index l.digits) ≡ value_from 0 l.digits) × (l.n ≤ l.most)
