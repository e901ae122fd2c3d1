use Rattle.std.proofs.Common.{◌≡◌, ◌<◌, List, ℕ, [], length, get_or, set, sym, ap, subst, ◌∙◌, arith}
use Rattle.std.proofs.lemmas.List.{get_or_default}
use Rattle.seg_codec.proofs.RankLemmas.{within_ids, within_row}
use Rattle.seg_codec.proofs.ranks.tell.Goals as goal

pub index_mut-requires : goal.index_mut-requires
index_mut-requires c = omega (arith, within_ids c.args.ranks.now.items c.args.place.now c.requires)

pub put-requires : goal.put-requires
put-requires c =
    let ranks = c.args.ranks.now.items in
    let p = c.args.place.now in
    let row : c.index_mut.result.now ≡ get_or ranks p.id [] = c.index_mut.ensures.value ∙ get_or_default ranks p.id c.index_mut.result.now [] (within_ids ranks p c.requires) in
    subst (λ (r : List ℕ). p.at < length r) (sym row) (within_row ranks p c.requires)

pub returns : goal.returns
returns c =
    let ranks = c.args.ranks.now.items in
    let p = c.args.place.now in
    let row : c.index_mut.result.now ≡ get_or ranks p.id [] = c.index_mut.ensures.value ∙ get_or_default ranks p.id c.index_mut.result.now [] (within_ids ranks p c.requires) in
    let written : c.put.new.self ≡ set (get_or ranks p.id []) p.at c.args.rank = c.put.ensures ∙ ap (λ (r : List ℕ). set r p.at c.args.rank) row in
    ap (set ranks p.id) written
