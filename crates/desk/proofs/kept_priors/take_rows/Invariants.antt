use Rattle.std.proofs.Common.{◌≡◌, map, take}
use Rattle.desk.specs.Priors.{row_told, table_prior}
use Rattle.desk.proofs.kept_priors.take_rows.Given as goal

-- the plug has the rows that were gone over
abbrev pub invariant-loop-row : goal.invariant-loop-row
invariant-loop-row g l = (goal.BeliefNode-dyn g (l.plug.vtable, l.plug.value)).meaning l.plug.value ≡ table_prior (map row_told (take l.row-index l.rows.rows)) (record { p = 1; q = 1 })
