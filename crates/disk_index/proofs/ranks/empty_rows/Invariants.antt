use Rattle.std.proofs.Common.{◌≡◌, [], replicate}
use Rattle.disk_index.proofs.ranks.empty_rows.Given as goal

abbrev pub invariant-loop-range : goal.invariant-loop-range
invariant-loop-range l = l.rows.items ≡ replicate l._range []
