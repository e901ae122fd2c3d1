use Rattle.std.proofs.Common.{◌≡◌, ℕ, take}
use Rattle.std.specs.List.{All}
use Rattle.seg_codec.specs.Held.{rank_at}
use Rattle.seg_codec.proofs.ranks.is_told.Given as goal

abbrev pub invariant-loop-place : goal.invariant-loop-place
invariant-loop-place l = (none : ℕ) → All (λ p. rank_at none l.ranks p ≡ l.rank) (take l.place-index l.postings)
