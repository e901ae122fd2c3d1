use Rattle.std.proofs.Common.{arith}
use Rattle.std.proofs.lemmas.Grind.{common_steps}
use Rattle.store_ends.proofs.Past.{after-more}
use Rattle.store_ends.specs.Past.{first_files}
use Rattle.store_ends.proofs.change.bytes_of.Goals as goal

pub loop-change-preserved : goal.loop-change-preserved
loop-change-preserved c =
    let more = after-more (first_files c.args.first.now) c.args.changes.now c.loop-change.change-index c.change-item.result c.args.name.now c.loop-change-test.true c.change-item.is in
    grind (arith, common_steps, more)
