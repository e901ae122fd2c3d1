use Rattle.std.proofs.Common.{◌≡◌, ◌++◌, drop, map}
use Rattle.seg_codec.proofs.whole.put_positions.Given as goal

abbrev pub invariant-loop-at : goal.invariant-loop-at
invariant-loop-at l = l.postings.items ++ map (λ p. record { id = l.id; at = p }) (drop l.at-index l.positions) ≡ l.fn.postings.items ++ map (λ p. record { id = l.id; at = p }) l.positions
