use Rattle.std.proofs.Common.{arith, sym, ap, subst, ◌∙◌}
use Rattle.smoothing.specs.Bounds.{IsAtMost}
use Rattle.smoothing.specs.Fractions.{fraction_of}
use Rattle.smoothing.proofs.Rises.{covered_kind}
use Rattle.smoothing.proofs.rule.Rule.bound.Goals as goal

pub belief-requires-clause-counts : goal.belief-requires-clause-counts
belief-requires-clause-counts g c =
    let l = c.requires.limits in
    record { within = omega (arith, c.max.ensures); part = l.part; short = omega (arith, c.max.ensures, l.fits, l.short); few = l.few }

pub returns-clause-covers : goal.returns-clause-covers
returns-clause-covers g c = λ tf len counts few long.
    let kind = c.args.self.now.kind in
    subst (λ r. IsAtMost (fraction_of kind tf len c.args.cf c.args.total) r)
    (sym (c.belief.ensures.exact ∙ ap (λ n. fraction_of kind c.args.tf_most n c.args.cf c.args.total) c.max.ensures))
    (covered_kind kind c.args.tf_most c.args.len_least tf len c.args.cf c.args.total counts few long)
