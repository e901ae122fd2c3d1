use Rattle.std.proofs.Common.{◌≡◌, ◌<◌, ◌≤◌, length, get_or, refl, ◌∙◌}
use Rattle.belief_nodes.specs.Products.{greatest_of}
use Rattle.belief_nodes.proofs.Plugs.{greatest_end, greatest_next}
use Rattle.ri_base.specs.Ratio.{ratio_of}
use Rattle.belief_nodes.proofs.length_plug.LengthPlugBeliefNode.greatest.Goals as goal

pub loop-f-init : goal.loop-f-init
unfolding greatest_of
loop-f-init c = refl

pub loop-f-preserved : goal.loop-f-preserved
loop-f-preserved c =
    let steps = c.args.self.now.steps.items in
    let step = c.loop-f-item.result in
    let inside : c.loop-f.f-index < length steps = rw c.deref-f-items.ensures.value at c.loop-f-test.true in
    let here : step ≡ get_or steps c.loop-f.f-index step = rw c.deref-f-items.ensures.value at c.loop-f-item.is in
    c.greater-greatest.ensures ∙ greatest_next (ratio_of c.args.self.now.rest) steps c.loop-f.f-index step (ratio_of c.loop-f.greatest) inside here c.loop-f.invariant

pub returns : goal.returns
returns c =
    let end : length c.args.self.now.steps.items ≤ c.loop-f.f-index = rw c.deref-f-items.ensures.value at c.loop-f-test.false in
    greatest_end c.args.self.now.rest c.args.self.now.steps.items c.loop-f.f-index (ratio_of c.loop-f.greatest) end c.loop-f.invariant
