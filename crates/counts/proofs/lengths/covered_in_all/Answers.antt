use Rattle.std.proofs.Common.{None, Some, refl, ◌∙◌, ◌+◌, arith}
use Rattle.counts.specs.Sums.{counted_tokens}
use Rattle.counts.proofs.SumsLemmas.{live-all, live-more, live-within}
use Rattle.counts.proofs.lengths.covered_in_all.Goals as goal

pub overflow_add-count : goal.overflow_add-count
overflow_add-count c =
    let ms = c.args.parts.now in
    let i = c.loop-marked.marked-index in
    let so_far = c.loop-marked.invariant None in
    let one = c.covered_in_part-count.ensures None in
    let more = live-more (counted_tokens (Some c.args.name.now)) None ms i c.marked-item.result c.loop-marked-test.true c.marked-item.is in
    let bound = live-within (Some c.args.name.now) None ms (i + 1) c.requires in
    omega (arith, so_far, one, more, bound)

pub loop-marked-init : goal.loop-marked-init
loop-marked-init c = λ told. refl

pub loop-marked-preserved : goal.loop-marked-preserved
loop-marked-preserved c = λ told.
    let so_far = c.loop-marked.invariant told in
    let one = c.covered_in_part-count.ensures told in
    let more = live-more (counted_tokens (Some c.args.name.now)) told c.args.parts.now c.loop-marked.marked-index c.marked-item.result c.loop-marked-test.true c.marked-item.is in
    omega (arith, so_far, one, more)

pub returns-clause-exact : goal.returns-clause-exact
returns-clause-exact c = λ told. c.loop-marked.invariant told ∙ live-all (counted_tokens (Some c.args.name.now)) told c.args.parts.now c.loop-marked.marked-index c.loop-marked-test.false

pub returns-clause-most : goal.returns-clause-most
returns-clause-most c =
    let so_far = c.loop-marked.invariant None in
    let bound = live-within (Some c.args.name.now) None c.args.parts.now c.loop-marked.marked-index c.requires in
    omega (arith, so_far, bound)
