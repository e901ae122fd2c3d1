use Rattle.std.proofs.Common.{◌∙◌, length, max, ap}
use Rattle.std.proofs.lemmas.List.{take_all}
use Rattle.seg_codec.specs.declared.blocks.BlockEntry.{BlockEntry}
use Rattle.range_masks.specs.Most.{most_of_entries}
use Rattle.range_masks.proofs.MostLemmas.{greatest_more}
use Rattle.range_masks.proofs.most.most_of_entries.Goals as goal

pub loop-entry-preserved : goal.loop-entry-preserved
loop-entry-preserved c =
    greatest_more (λ (e : BlockEntry). length e.positions) c.args.entries.now c.loop-entry.entry-index c.entry-item.result c.loop-entry.most c.max-most.result
    c.loop-entry-test.true c.entry-item.is c.loop-entry.invariant (c.max-most.ensures ∙ ap (max c.loop-entry.most) c.len.ensures)

pub returns : goal.returns
returns c = c.loop-entry.invariant ∙ ap most_of_entries (take_all c.loop-entry.entry-index c.args.entries.now c.loop-entry-test.false)
