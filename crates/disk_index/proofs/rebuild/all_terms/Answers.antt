use Rattle.std.proofs.Common.{sym}
use Rattle.disk_index.proofs.RebuildLemmas.{terms-end}
use Rattle.disk_index.proofs.rebuild.all_terms.Goals as goal

pub returns : goal.returns
returns c = sym (terms-end c.args.dictionary.now c.args.slots.now c.loop-slot.slot-index c.loop-slot.terms _ c.loop-slot-test.false c.loop-slot.invariant)
