use Rattle.std.proofs.Common.{rules, ◌≡◌, true, sym, ◌∙◌}
use Rattle.ri_base.specs.Query.{belief_tree}
use Rattle.query_check.specs.Check.{has_weights}
use Rattle.query_check.proofs.Walks.{have_weights_weighted_passed}
use Rattle.query_check.proofs.weights.+weights.Goals as goal

pub have_weights_weighted-loop-x-preserved : goal.have_weights_weighted-loop-x-preserved
have_weights_weighted-loop-x-preserved t c =
    let is : has_weights (belief_tree c.loop-x-item.result.1) ≡ true = search rules in
    sym (have_weights_weighted_passed c.args.all.now c.loop-x.x-index c.loop-x-item.result c.loop-x-test.true c.loop-x-item.is is) ∙ c.loop-x.invariant
