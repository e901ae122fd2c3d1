use Rattle.std.proofs.Common.{◌≡◌, None, map, replicate, take}
use Rattle.disk_index.proofs.rebuild.untold_rows.Given as goal

abbrev pub invariant-loop-outline : goal.invariant-loop-outline
invariant-loop-outline l = l.rows.items ≡ map (λ o. replicate o.tokens None) (take l.outline-index l.outlines)
