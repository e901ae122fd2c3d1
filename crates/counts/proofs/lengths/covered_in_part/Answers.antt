use Rattle.std.proofs.Common.{◌<◌, ◌≤◌, Some, refl, ap, ◌∙◌, arith}
use Rattle.disk_index.specs.Parts.{size}
use Rattle.counts.specs.Sums.{counted_tokens}
use Rattle.counts.proofs.SumsLemmas.{first-end, first-more}
use Rattle.counts.proofs.lengths.covered_in_part.Goals as goal

pub loop-id-init : goal.loop-id-init
loop-id-init c = record { short = omega arith; so_far = λ told. refl }

pub loop-id-preserved : goal.loop-id-preserved
loop-id-preserved c =
    let m = c.args.marked.now in
    let same = ap size c.part.ensures.part in
    let inside : c.loop-id.id < size m.source = omega (arith, c.loop-id-test.true, c.docs-id-end.ensures.size, same) in
    record {
      short = omega (arith, c.loop-id.invariant.short, c.covered_in_live.ensures.most, c.from-count.ensures);
      so_far = λ told.
          let more = first-more (counted_tokens (Some c.args.name.now)) told m c.loop-id.id c.part.ensures.whole inside in
          let before = c.loop-id.invariant.so_far told in
          let here = c.covered_in_live.ensures.exact told in
          omega (arith, more, before, here, c.from-count.ensures);
    }

pub returns : goal.returns
returns c = λ told.
    let same = ap size c.part.ensures.part in
    let end : size c.args.marked.now.source ≤ c.loop-id.id = omega (arith, c.loop-id-test.false, c.docs-id-end.ensures.size, same) in
    c.loop-id.invariant.so_far told ∙ first-end (counted_tokens (Some c.args.name.now)) told c.args.marked.now c.loop-id.id end
