use Rattle.std.proofs.Common.{◌≡◌, ◌<◌, ◌%◌, ◌==◌, ℕ, cond, take}
use Rattle.std.specs.Int.{bit_at}
use Rattle.std.specs.List.{list_any}
use Rattle.range_masks.proofs.sealed.mask_of_ids.Given as goal

abbrev pub invariant-loop-place : goal.invariant-loop-place
invariant-loop-place l = (i : ℕ) → i < 64 → bit_at l.mask i ≡ cond (list_any (λ p. p.id % 64 == i) (take l.place-index l.block)) 1 0
