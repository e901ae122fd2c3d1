use Rattle.std.proofs.Common.{List, sym, ap, subst, ◌∙◌}
use Rattle.std.specs.List.{All}
use Rattle.seg_codec.specs.declared.documents.Entry.{Entry}
use Rattle.disk_index.specs.Blocks.{of_range}
use Rattle.disk_index.specs.Kept.{IsOutline}
use Rattle.disk_index.proofs.RebuildLemmas.{All-range}
use Rattle.disk_index.proofs.index.DiskIndex.outlines.Goals as goal

pub returns-clause-kept : goal.returns-clause-kept
returns-clause-kept c =
    let range = c.args.range in
    subst (All IsOutline) (sym (c.of_range.ensures ∙ ap (λ (l : List Entry). of_range range l) c.as_slice.ensures.same))
    (All-range IsOutline range c.self.inside.documents c.self.invariant.kept.each)
