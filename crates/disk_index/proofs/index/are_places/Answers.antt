use Rattle.std.proofs.Common.{inl, inr, arith}
use Rattle.disk_index.proofs.FaultLemmas.{below-last, places-seen}
use Rattle.disk_index.proofs.index.are_places.Goals as goal

pub returns-then-at-low-clause-no : goal.returns-then-at-low-clause-no
returns-then-at-low-clause-no c = λ h.
    let i = c.loop-place.place-index in
    absurd (elim c.then-at-low.either [
      | inl less ↦ below-last c.args.places.now i c.loop-place.low c.args.size c.loop-place.invariant.first c.loop-place.invariant.last c.loop-place-test.true less h
      | inr big ↦ (let below = h.below i 0 c.loop-place-test.true in omega (arith, below, big.1))
    ])

pub returns-clause-yes : goal.returns-clause-yes
returns-clause-yes c = λ _.
    places-seen c.args.places.now c.loop-place.place-index c.args.size c.loop-place-test.false c.loop-place.invariant.below c.loop-place.invariant.rising
