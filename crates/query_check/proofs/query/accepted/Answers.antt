use Rattle.std.proofs.Common.{rules, arith, ◌≡◌, None, Some, Err, map, refl, sym, true, ◌∙◌}
use Rattle.std.specs.Prelude.{find}
use Rattle.ri_base.specs.Query.{belief_tree, belief_trees, combine}
use Rattle.query_check.specs.Check.{have_weights, have_leaf, all_pruned, is_unknown, all_priors}
use Rattle.query_check.proofs.Faults.{no_weight, no_leaf, positive, unknown, large_accepts, combined_weights}
use Rattle.query_check.proofs.Keeps.{few_leaves}
use Rattle.query_check.proofs.query.accepted.Goals as goal

pub returns-then-not-have_weights : goal.returns-then-not-have_weights
returns-then-not-have_weights c = no_weight _ _ (sym c.have_weights.ensures ∙ c.if-not-have_weights.true)

pub returns-then-not-have_leaf : goal.returns-then-not-have_leaf
returns-then-not-have_leaf c = no_leaf _ _ (sym c.have_weights.ensures ∙ c.if-not-have_weights.false) (sym c.have_leaf.ensures ∙ c.if-not-have_leaf.true)

pub scaled-requires-clause-positive : goal.scaled-requires-clause-positive
scaled-requires-clause-positive c =
    let weights : have_weights (belief_trees (map belief_tree c.args.beliefs.now)) ≡ true = sym c.have_weights.ensures ∙ c.if-not-have_weights.false in
    positive _ c.requires.sound (combined_weights _ ∙ weights)

pub scaled-requires-clause-room : goal.scaled-requires-clause-room
scaled-requires-clause-room c = omega (arith, few_leaves (combine (belief_trees (map belief_tree c.args.beliefs.now))), c.requires.few)

pub returns-in_err-tree : goal.returns-in_err-tree
returns-in_err-tree c =
    let r : c.from_residual.result ≡ Err c.in_err-tree.field-0.0 = search rules in
    let weights : have_weights (belief_trees (map belief_tree c.args.beliefs.now)) ≡ true = sym c.have_weights.ensures ∙ c.if-not-have_weights.false in
    let leaf : have_leaf (all_pruned (belief_trees (map belief_tree c.args.beliefs.now))) ≡ true = sym c.have_leaf.ensures ∙ c.if-not-have_leaf.false in
    rw r (large_accepts c.args.priors.now _ c.in_err-tree.field-0.0 weights leaf c.in_err-tree.ensures)

pub returns-in-Some : goal.returns-in-Some
returns-in-Some c =
    let weights : have_weights (belief_trees (map belief_tree c.args.beliefs.now)) ≡ true = sym c.have_weights.ensures ∙ c.if-not-have_weights.false in
    let leaf : have_leaf (all_pruned (belief_trees (map belief_tree c.args.beliefs.now))) ≡ true = sym c.have_leaf.ensures ∙ c.if-not-have_leaf.false in
    let found : find (is_unknown c.args.priors.now) (all_priors (belief_trees (map belief_tree c.args.beliefs.now))) ≡ Some c.in-Some.name = search rules in
    unknown c.args.priors.now _ weights leaf c.in_ok-tree.ensures.1 ∙ rw found refl

pub returns-in-None : goal.returns-in-None
returns-in-None c =
    let weights : have_weights (belief_trees (map belief_tree c.args.beliefs.now)) ≡ true = sym c.have_weights.ensures ∙ c.if-not-have_weights.false in
    let leaf : have_leaf (all_pruned (belief_trees (map belief_tree c.args.beliefs.now))) ≡ true = sym c.have_leaf.ensures ∙ c.if-not-have_leaf.false in
    let found : find (is_unknown c.args.priors.now) (all_priors (belief_trees (map belief_tree c.args.beliefs.now))) ≡ None = search rules in
    (unknown c.args.priors.now _ weights leaf c.in_ok-tree.ensures.1 ∙ rw found refl, c.in_ok-tree.ensures.0)
