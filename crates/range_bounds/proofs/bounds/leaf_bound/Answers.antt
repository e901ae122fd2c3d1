use Rattle.std.proofs.Common.{◌∙◌, max, ap, arith}
use Rattle.ri_base.specs.Expression.{expr_tree}
use Rattle.smoothing.specs.Fractions.{fraction_of}
use Rattle.range_bounds.specs.Tables.{told_most}
use Rattle.range_bounds.proofs.bounds.leaf_bound.Goals as goal

pub bound-requires-clause-limits : goal.bound-requires-clause-limits
bound-requires-clause-limits g c = record {
  fits = omega (arith, c.most.ensures.few);
  short = omega (arith, c.least_scored-least.ensures.short);
  part = c.requires.stats.part;
  few = c.requires.stats.few;
}

pub returns-in-Extents : goal.returns-in-Extents
returns-in-Extents g c =
    let kind = c.args.rule.now.kind in
    let most = told_most c.args.table.now c.args.counts.now (expr_tree c.in-Extents.expr) in
    rw c.in-Extents.is (
    c.bound.ensures.exact ∙ ap (λ n. fraction_of kind n (max c.least_scored-least.result n) c.args.stats.cf c.args.stats.total) c.most.ensures.exact
    ∙ ap (λ n. fraction_of kind most (max n most) c.args.stats.cf c.args.stats.total) c.least_scored-least.ensures.exact
    )

pub returns-in-Prior : goal.returns-in-Prior
returns-in-Prior g c = rw c.in-Prior.is c.greatest_at.ensures
