use Rattle.ri_base.specs.declared.places.Place.{Place}
use Rattle.range_masks.proofs.PostingLemmas.{bits_more}
use Rattle.range_masks.proofs.sealed.mask_of_ids.Goals as goal

pub loop-place-preserved : goal.loop-place-preserved
loop-place-preserved c = λ i small.
    bits_more (λ (x : Place). x.id) c.args.block.now c.loop-place.place-index c.loop-place.mask c.with_id-mask.result _ c.loop-place-test.true c.with_id-mask.ensures c.loop-place.invariant i small
