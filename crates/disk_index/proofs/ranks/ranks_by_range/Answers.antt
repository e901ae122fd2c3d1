use Rattle.std.proofs.Common.{◌≡◌, ◌<◌, ◌+◌, ◌∷◌, ◌++◌, [], List, take, subst, sym, ap, ◌∙◌, refl, arith}
use Rattle.std.specs.Int.{div_ceil}
use Rattle.std.specs.List.{AllPairs}
use Rattle.std.proofs.lemmas.List.{length-take-le, take_all, take_more}
use Rattle.seg_codec.specs.declared.dictionary.BlockPlace.{BlockPlace}
use Rattle.seg_codec.specs.declared.dictionary.TermBlocks.{TermBlocks}
use Rattle.disk_index.specs.Kept.{ArePlaces}
use Rattle.disk_index.specs.Ranks.{IsRanked}
use Rattle.disk_index.proofs.RankLemmas.{AreRanks-from, AreRows, AreRows-more}
use Rattle.disk_index.proofs.ranks.ranks_by_range.Goals as goal

pub add_rank-requires : goal.add_rank-requires
add_rank-requires c =
    let own : ArePlaces c.term-item.result = subst ArePlaces (sym c.term-item.is) (c.requires.places c.loop-term.term-index c.term-item.result c.loop-term-test.true) in
    subst (λ (l : List BlockPlace). AllPairs (λ (a b : BlockPlace). a.range < b.range) l) (sym c.as_slice.ensures) own.rising

pub loop-term-preserved : goal.loop-term-preserved
loop-term-preserved c =
    let i = c.loop-term.term-index in
    let ts = c.args.dictionary.now in
    let t = c.term-item.result in
    let e : take (i + 1) ts ≡ take i ts ++ t ∷ [] = take_more ts i t c.loop-term-test.true ∙ ap (λ (x : TermBlocks). take i ts ++ x ∷ []) (sym c.term-item.is) in
    let ranked = subst (λ (bs : List BlockPlace). IsRanked bs c.loop-term.rank c.loop-term.rows.items c.add_rank.new.rows.items) c.as_slice.ensures c.in_ok-add_rank.ensures in
    record {
      rank_is = omega arith;
      rows_are = subst (λ (l : List TermBlocks). AreRows (div_ceil c.args.docs 64) l c.add_rank.new.rows.items) (sym e)
          (AreRows-more (div_ceil c.args.docs 64) c.loop-term.rank (take i ts) t c.loop-term.rows.items c.add_rank.new.rows.items c.loop-term.invariant.rows_are (omega (arith, length-take-le i ts, c.loop-term.invariant.rank_is)) ranked);
    }

pub returns : goal.returns
returns c =
    AreRanks-from c.args.docs (div_ceil c.args.docs 64) c.args.dictionary.now c.loop-term.rows.items refl
    (subst (λ (l : List TermBlocks). AreRows (div_ceil c.args.docs 64) l c.loop-term.rows.items) (take_all c.loop-term.term-index c.args.dictionary.now c.loop-term-test.false) c.loop-term.invariant.rows_are)
