use Rattle.std.proofs.Common.{◌≡◌, ◌<◌, ◌%◌, ◌==◌, ℕ, cond, take}
use Rattle.std.specs.Int.{bit_at}
use Rattle.std.specs.List.{list_any}
use Rattle.range_masks.proofs.part.mask_of_entries.Given as goal

abbrev pub invariant-loop-entry : goal.invariant-loop-entry
invariant-loop-entry l = (i : ℕ) → i < 64 → bit_at l.mask i ≡ cond (list_any (λ e. e.id % 64 == i) (take l.entry-index l.entries)) 1 0
