use Rattle.std.proofs.Common.{◌≡◌, ◌≤◌, ◌<◌, ℕ, true}
use Rattle.repository.specs.Numbers.{is_among}
use Rattle.repository.proofs.numbers.least_free.Given as goal

abbrev pub invariant-loop-number : goal.invariant-loop-number
invariant-loop-number l = record {
  from : l.low ≤ l.number;
  filled : (k : ℕ) → 1 ≤ k → k < l.number → is_among k l.taken.keys ≡ true;
}
