use Rattle.std.proofs.Common.{List, ℕ, [], length, get_or, refl, sym, subst, arith}
use Rattle.std.specs.List.{All}
use Rattle.std.proofs.lemmas.List.{take_all}
use Rattle.std.proofs.lemmas.List.Elements.{All-nil}
use Rattle.seg_codec.specs.Held.{AreFilled, IsWithin}
use Rattle.seg_codec.proofs.RankLemmas.{all_told_more}
use Rattle.seg_codec.proofs.ranks.tell_all.Goals as goal

pub loop-rank-init : goal.loop-rank-init
loop-rank-init c = record { shape = refl; only = c.requires.only; filled = All-nil (AreFilled (length c.args.postings.now) c.args.ranks.now.items) }

pub tell_term-requires : goal.tell_term-requires
tell_term-requires c = record {
  known = omega arith;
  within = subst (λ (ls : List ℕ). All (IsWithin ls) (get_or c.args.postings.now c.loop-rank.rank [])) (sym c.loop-rank.invariant.shape) (c.requires.within c.loop-rank.rank [] (omega arith));
  only = c.loop-rank.invariant.only;
}

pub loop-rank-preserved : goal.loop-rank-preserved
loop-rank-preserved c =
    all_told_more c.args.postings.now c.args.ranks.now.items c.loop-rank.ranks.items _ c.loop-rank.rank (omega arith) c.loop-rank.invariant c.tell_term.ensures.shape c.tell_term.ensures.only c.tell_term.ensures.filled c.tell_term.ensures.kept

pub returns-clause-filled : goal.returns-clause-filled
returns-clause-filled c = subst (All (AreFilled (length c.args.postings.now) c.loop-rank.ranks.items)) (take_all c.loop-rank.rank c.args.postings.now (omega arith)) c.loop-rank.invariant.filled
