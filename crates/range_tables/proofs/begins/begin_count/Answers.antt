use Rattle.std.proofs.Common.{◌∙◌, nat_eq, take, sym, ap, subst}
use Rattle.std.specs.Set.{distinct_count}
use Rattle.std.proofs.lemmas.List.{take_all}
use Rattle.range_tables.specs.Begins.{IsCounted}
use Rattle.range_bounds.specs.Ranges.{field_begins}
use Rattle.range_tables.proofs.BeginLemmas.{IsCounted-count, begins_more, no_earlier}
use Rattle.range_tables.proofs.begins.begin_count.Goals as goal

pub loop-span-preserved : goal.loop-span-preserved
loop-span-preserved c =
    let name = c.args.name.now in
    let spans = c.args.spans.now in
    let i = c.loop-span.span-index in
    let span = c.span-item.result in
    subst (λ bs. IsCounted bs c.with_field-begun.result) (sym (begins_more name spans i span c.loop-span-test.true c.span-item.is))
    (c.with_field-begun.ensures (field_begins name (take i spans)) (no_earlier name spans i span c.loop-span-test.true c.span-item.is c.requires) c.loop-span.invariant)

pub returns : goal.returns
returns c =
    let name = c.args.name.now in
    IsCounted-count (field_begins name (take c.loop-span.span-index c.args.spans.now)) c.loop-span.begun c.loop-span.invariant
    ∙ ap (λ fs. distinct_count nat_eq (field_begins name fs)) (take_all c.loop-span.span-index c.args.spans.now c.loop-span-test.false)
