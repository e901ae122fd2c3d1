use Rattle.ri_base.proofs.Written.{one_written}
use Rattle.manifest.specs.Spelling.{spelled_segment}
use Rattle.manifest.proofs.writing.put_segments.Goals as goal

pub loop-entry-preserved : goal.loop-entry-preserved
loop-entry-preserved c = one_written spelled_segment c.args.entries.now c.loop-entry.entry-index _ _ _ _ c.loop-entry-test.true c.entry-item.is c.in_ok-put_segment.ensures c.loop-entry.invariant
