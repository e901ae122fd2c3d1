use Rattle.std.proofs.Common.{◌≡◌, ◌<◌, List, ℕ, [], get_or, subst, ◌∙◌}
use Rattle.std.specs.List.{All}
use Rattle.std.proofs.lemmas.List.{get_or_read}
use Rattle.std.proofs.lemmas.List.Elements.{All-more}
use Rattle.seg_codec.proofs.RankLemmas.{gap_at}
use Rattle.seg_codec.proofs.ranks.are_full.Goals as goal

pub returns-then-not-is_full-clause-no : goal.returns-then-not-is_full-clause-no
returns-then-not-is_full-clause-no c _ =
    let ranks = c.args.ranks.now in
    let i = c.loop-row.row-index in
    let own : c.as_slice.result.now ≡ get_or ranks i [] = c.as_slice.ensures ∙ get_or_read ranks i c.row-item.result c.loop-row-test.true c.row-item.is [] in
    gap_at c.args.terms ranks i c.as_slice.result.now c.loop-row-test.true own (c.is_full.ensures.no c.if-not-is_full.true)

pub loop-row-preserved : goal.loop-row-preserved
loop-row-preserved c =
    let ranks = c.args.ranks.now in
    let i = c.loop-row.row-index in
    let own : c.as_slice.result.now ≡ get_or ranks i [] = c.as_slice.ensures ∙ get_or_read ranks i c.row-item.result c.loop-row-test.true c.row-item.is [] in
    All-more (λ (rs : List ℕ). All (λ (r : ℕ). r < c.args.terms) rs) ranks i [] c.loop-row-test.true c.loop-row.invariant (subst (All (λ (r : ℕ). r < c.args.terms)) own (c.is_full.ensures.yes c.if-not-is_full.false))
