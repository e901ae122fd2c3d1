use Rattle.std.proofs.Common.{◌≡◌, ◌<◌, ℕ, [], get_or, length}
use Rattle.std.specs.List.{All}
use Rattle.seg_codec.specs.Held.{rank_at}
use Rattle.seg_codec.proofs.ranks.are_agreed.Given as goal

abbrev pub invariant-loop-rank : goal.invariant-loop-rank
invariant-loop-rank l = (r : ℕ) → r < l.rank → All (λ p. rank_at (length l.postings) l.ranks p ≡ r) (get_or l.postings r [])
