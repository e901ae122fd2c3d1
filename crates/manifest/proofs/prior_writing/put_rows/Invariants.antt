use Rattle.std.proofs.Common.{◌≡◌, ◌++◌, drop, length, map}
use Rattle.std.specs.Int.{w32, to_le_bytes}
use Rattle.std.specs.List.{flat_map}
use Rattle.manifest.specs.Priors.{row_of, spelled_row}
use Rattle.manifest.proofs.prior_writing.put_rows.Given as goal

abbrev pub invariant-loop-row : goal.invariant-loop-row
invariant-loop-row l = l.out.items ++ flat_map spelled_row (map row_of (drop l.row-index l.rows)) ≡ (l.fn.out.items ++ to_le_bytes w32 (length l.rows)) ++ flat_map spelled_row (map row_of l.rows)
