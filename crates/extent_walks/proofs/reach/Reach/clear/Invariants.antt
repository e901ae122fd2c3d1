use Rattle.std.proofs.Common.{◌≡◌, ◌<◌, ℕ, get_or, length}
use Rattle.extent_walks.proofs.reach.Reach.clear.Given as goal

abbrev pub invariant-loop-i : goal.invariant-loop-i
invariant-loop-i l = record {
  count : length l.self.lows.items ≡ length l.initial.self.lows.items;
  zero : (k d : ℕ) → k < l.i → get_or l.self.lows.items k d ≡ 0;
}
