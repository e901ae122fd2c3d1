use Rattle.manifest.proofs.PriorLemmas.{one_row}
use Rattle.manifest.proofs.prior_writing.put_rows.Goals as goal

pub loop-row-preserved : goal.loop-row-preserved
loop-row-preserved c = one_row c.args.rows.now c.loop-row.row-index _ _ _ _ c.loop-row-test.true c.row-item.is c.in_ok-put_row.ensures c.loop-row.invariant
