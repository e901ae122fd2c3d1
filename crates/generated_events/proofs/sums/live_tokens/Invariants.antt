use Rattle.std.proofs.Common.{◌≡◌, ◌≤◌, ◌*◌}
use Rattle.generated_events.specs.Documents.{live_tokens}
use Rattle.generated_events.proofs.sums.live_tokens.Given as goal

-- how many words those have that were gone over and stay
abbrev pub invariant-loop-number : goal.invariant-loop-number
invariant-loop-number l = (l.tokens ≡ live_tokens l.number) × (l.tokens ≤ 4 * l.number)
