use Rattle.std.proofs.Common.{◌≡◌, ◌≤◌, ◌-◌, drop, length, min}
use Rattle.bounded_keys.specs.Likeness.{by_beliefs}
use Rattle.bounded_keys.proofs.likeness.by_beliefs.Given as goal

abbrev pub invariant-loop-i : goal.invariant-loop-i
invariant-loop-i l = record {
  both : l.both ≡ min (length l.some) (length l.others);
  within : l.i ≤ l.both;
  left : by_beliefs (drop l.i l.some) (drop l.i l.others) ≡ by_beliefs l.some l.others;
}

abbrev pub decreases-loop-i : goal.decreases-loop-i
decreases-loop-i l = ◌-◌ l.both l.i
