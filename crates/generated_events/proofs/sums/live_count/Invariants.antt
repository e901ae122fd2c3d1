use Rattle.std.proofs.Common.{◌≡◌, ◌≤◌}
use Rattle.generated_events.specs.Documents.{live_count}
use Rattle.generated_events.proofs.sums.live_count.Given as goal

-- how many of those that were gone over stay
abbrev pub invariant-loop-number : goal.invariant-loop-number
invariant-loop-number l = (l.live ≡ live_count l.number) × (l.live ≤ l.number)
