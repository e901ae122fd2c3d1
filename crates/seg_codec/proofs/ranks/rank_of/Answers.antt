use Rattle.std.proofs.Common.{◌≡◌, List, ℕ, [], get_or, ap, ◌∙◌}
use Rattle.std.proofs.lemmas.List.{get_or_default, get_or_read}
use Rattle.seg_codec.proofs.RankLemmas.{within_ids, within_row}
use Rattle.seg_codec.proofs.ranks.rank_of.Goals as goal

pub returns : goal.returns
returns c none =
    let ranks = c.args.ranks.now in
    let p = c.args.place.now in
    let row : c.as_slice.result.now ≡ get_or ranks p.id [] = c.as_slice.ensures ∙ get_or_read ranks p.id c.index-ranks-place.result (within_ids ranks p c.requires) c.index-ranks-place.is [] in
    ap (λ (r : List ℕ). get_or r p.at 0) row ∙ get_or_default (get_or ranks p.id []) p.at 0 none (within_row ranks p c.requires)
