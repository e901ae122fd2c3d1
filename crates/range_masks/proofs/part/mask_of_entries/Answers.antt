use Rattle.seg_codec.specs.declared.blocks.BlockEntry.{BlockEntry}
use Rattle.range_masks.proofs.PostingLemmas.{bits_more_at}
use Rattle.range_masks.proofs.part.mask_of_entries.Goals as goal

pub loop-entry-preserved : goal.loop-entry-preserved
loop-entry-preserved c = λ i small.
    bits_more_at (λ (x : BlockEntry). x.id) c.args.entries.now c.loop-entry.entry-index c.loop-entry.mask c.with_id-mask.result c.entry-item.result c.loop-entry-test.true c.entry-item.is c.with_id-mask.ensures c.loop-entry.invariant i small
