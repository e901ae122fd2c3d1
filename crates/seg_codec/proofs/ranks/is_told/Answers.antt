use Rattle.std.proofs.Common.{◌≡◌, sym, ◌∙◌, arith}
use Rattle.std.proofs.lemmas.List.Elements.{All-more, All-nil}
use Rattle.ri_base.specs.declared.places.Place.{Place}
use Rattle.seg_codec.specs.Held.{rank_at}
use Rattle.seg_codec.proofs.ranks.is_told.Goals as goal

pub rank_of-requires : goal.rank_of-requires
rank_of-requires c = c.requires c.loop-place.place-index _ c.loop-place-test.true

pub loop-place-init : goal.loop-place-init
loop-place-init c none = All-nil (λ p. rank_at none c.args.ranks.now p ≡ c.args.rank)

pub loop-place-preserved : goal.loop-place-preserved
loop-place-preserved c none =
    let known : c.rank_of.result ≡ c.args.rank = omega arith in
    All-more (λ (p : Place). rank_at none c.args.ranks.now p ≡ c.args.rank) c.args.postings.now c.loop-place.place-index _ c.loop-place-test.true (c.loop-place.invariant none) (sym (c.rank_of.ensures none) ∙ known)
