use Rattle.std.proofs.Common.{inl, inr, ap, ◌∙◌, arith}
use Rattle.ri_base.specs.Expression.{expr_tree}
use Rattle.counts.specs.Kept.{Kept, kept_of}
use Rattle.counts.proofs.KeptLemmas.{added-mapped}
use Rattle.counts.proofs.leaf.keep.Goals as goal

pub returns-in-Ok : goal.returns-in-Ok
returns-in-Ok c = λ e h. elim (added-mapped kept_of _ c.args.sums.now.entries (c.args.key, c.in-Ok.sum) c.put.ensures e h) [
  | inl was ↦ inl was
  | inr is ↦ inr record {
    sums = record {
      generation_is = ap (λ (k : Kept). k.generation) is;
      expr_is = ap (λ (k : Kept). expr_tree k.expr) is ∙ c.in-Ok.ensures.expr;
      context_is = ap (λ (k : Kept). k.context) is ∙ c.in-Ok.ensures.context;
      stats_are = ap (λ (k : Kept). k.stats) is ∙ c.in-Ok.ensures.stats;
    };
    not_last = omega arith;
  }
]
