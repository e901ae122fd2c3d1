use Rattle.std.proofs.Common.{◌+◌, ◌<◌, ◌^◌, List, length, sum_by, sym, subst}
use Rattle.ri_base.specs.declared.places.Place.{Place}
use Rattle.seg_codec.specs.Segment.{blocks_of}
use Rattle.seg_codec.proofs.twice.place_told_twice.Goals as goal

pub standing_in-requires : goal.standing_in-requires
standing_in-requires c =
    subst (λ (x : List (List Place)). c.args.whole.now.header.blocks_at + sum_by (λ (ps : List Place). length (blocks_of ps)) x < 2 ^ 64) (sym c.as_slice.ensures) c.requires
