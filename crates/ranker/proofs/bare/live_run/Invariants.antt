use Rattle.std.proofs.Common.{◌≡◌, ◌<◌, ◌≤◌, ◌-◌, ℕ, false, get_or}
use Rattle.ranker.proofs.bare.live_run.Given as goal

abbrev pub invariant-loop-at : goal.invariant-loop-at
invariant-loop-at l = record {
  from : l.id ≤ l.at;
  inside : l.at ≤ l.end;
  live : (i : ℕ) → l.id ≤ i → i < l.at → get_or l.marks i false ≡ false;
}

abbrev pub decreases-loop-at : goal.decreases-loop-at
decreases-loop-at l = l.end - l.at
