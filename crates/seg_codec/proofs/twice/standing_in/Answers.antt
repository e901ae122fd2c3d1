use Rattle.std.proofs.Common.{◌+◌, ◌++◌, ◌<◌, ◌^◌, List, None, length, sum_by, sym, ap, subst, ◌∙◌}
use Rattle.ri_base.specs.declared.places.Place.{Place}
use Rattle.seg_codec.specs.Segment.{blocks_of}
use Rattle.seg_codec.specs.Twice.{all_standing, sizes, standing}
use Rattle.seg_codec.proofs.SizeLaws.{all_standing_moves, end_fits, ends_move}
use Rattle.seg_codec.proofs.twice.standing_in.Goals as goal

pub stand-requires : goal.stand-requires
stand-requires c =
    let pss = c.args.postings.now in
    subst (λ (x : List Place). c.loop-places.end + sizes None x < 2 ^ 64) (sym c.as_slice.ensures)
    (end_fits c.loop-places.end pss c.loop-places.places-index c.places-item.result (c.args.start + sum_by (λ (x : List Place). length (blocks_of x)) pss) (2 ^ 64) c.loop-places-test.true c.places-item.is c.loop-places.invariant.end c.requires)

pub loop-places-preserved : goal.loop-places-preserved
loop-places-preserved c =
    let pss = c.args.postings.now in
    let i = c.loop-places.places-index in
    let ps = c.places-item.result in
    let at = c.loop-places.end in
    let out = c.loop-places.out.items in
    record {
      stand = all_standing_moves at pss i ps _ out _ (all_standing c.args.start pss) c.loop-places-test.true c.places-item.is (c.in_ok-end.ensures.stand ∙ ap (λ (x : List Place). out ++ standing at None x) c.as_slice.ensures)
          (c.in_ok-end.ensures.end ∙ ap (λ (x : List Place). at + sizes None x) c.as_slice.ensures) c.loop-places.invariant.stand;
      end = ends_move at pss i ps _ (c.args.start + sum_by (λ (x : List Place). length (blocks_of x)) pss) c.loop-places-test.true c.places-item.is (c.in_ok-end.ensures.end ∙ ap (λ (x : List Place). at + sizes None x) c.as_slice.ensures) c.loop-places.invariant.end;
    }
