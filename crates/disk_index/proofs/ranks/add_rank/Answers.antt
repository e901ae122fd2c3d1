use Rattle.std.proofs.Common.{List, take, get_or, subst, sym, refl}
use Rattle.std.proofs.lemmas.List.{take_more}
use Rattle.seg_codec.specs.declared.dictionary.BlockPlace.{BlockPlace}
use Rattle.disk_index.specs.Ranks.{IsRanked}
use Rattle.disk_index.proofs.RankLemmas.{IsRanked-more, IsRanked-start, lower-ranges, no_place}
use Rattle.disk_index.proofs.ranks.add_rank.Goals as goal

pub loop-block-init : goal.loop-block-init
loop-block-init c = IsRanked-start c.args.rank c.args.rows.now.items

pub loop-block-preserved : goal.loop-block-preserved
loop-block-preserved c =
    let i = c.loop-block.block-index in
    let bs = c.args.blocks.now in
    let b : BlockPlace = get_or bs i no_place in
    subst (λ (l : List BlockPlace). IsRanked l c.args.rank c.args.rows.now.items c.put_rank.new.rows.items) (sym (take_more bs i no_place c.loop-block-test.true))
    (IsRanked-more (take i bs) b c.args.rank c.args.rows.now.items c.loop-block.rows.items c.put_rank.new.rows.items (lower-ranges bs i b c.requires c.loop-block-test.true no_place refl) c.loop-block.invariant c.in_ok-put_rank.ensures)
