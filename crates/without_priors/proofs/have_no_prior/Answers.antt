use Rattle.std.proofs.Common.{subst, arith, ap, sym, map, ◌∙◌}
use Rattle.std.specs.List.{All}
use Rattle.std.proofs.lemmas.Bool.{OnFalse_at, OnTrue_at}
use Rattle.std.proofs.lemmas.List.{get_or-map, length-map, take_all}
use Rattle.std.proofs.lemmas.List.Elements.{All-get_or, All-map, All-more}
use Rattle.query_check.specs.Leaves.{leaf_tree}
use Rattle.query_check.specs.declared.leaf_kind.LeafKind.{LeafKind}
use Rattle.belief_nodes.specs.Leaves.{HasPrior}
use Rattle.without_priors.proofs.have_no_prior.Goals as goal

pub loop-leaf-preserved : goal.loop-leaf-preserved
loop-leaf-preserved c =
    let item = c.leaf-item.result in
    let here : HasPrior 0 (leaf_tree item) = OnTrue_at c.if-not-is_no_prior.false c.is_no_prior.ensures.yes in
    All-more (λ (x : LeafKind). HasPrior 0 (leaf_tree x)) c.args.leaves.now c.loop-leaf.leaf-index item c.loop-leaf-test.true c.loop-leaf.invariant (rw (← c.leaf-item.is) here)

pub returns-then-not-is_no_prior-clause-no : goal.returns-then-not-is_no_prior-clause-no
returns-then-not-is_no_prior-clause-no c = λ all.
    let item = c.leaf-item.result in
    let i = c.loop-leaf.leaf-index in
    let there = All-get_or (HasPrior 0) (map leaf_tree c.args.leaves.now) i (leaf_tree item) (omega (arith, length-map c.args.leaves.now leaf_tree, c.loop-leaf-test.true)) all in
    OnFalse_at c.if-not-is_no_prior.true c.is_no_prior.ensures.no (subst (HasPrior 0) (get_or-map leaf_tree c.args.leaves.now i item _ c.loop-leaf-test.true ∙ ap leaf_tree (sym c.leaf-item.is)) there)

pub returns-clause-yes : goal.returns-clause-yes
returns-clause-yes c =
    All-map (HasPrior 0) leaf_tree c.args.leaves.now
    (subst (All (λ (x : LeafKind). HasPrior 0 (leaf_tree x))) (take_all c.loop-leaf.leaf-index c.args.leaves.now (omega (arith, c.loop-leaf-test.false))) c.loop-leaf.invariant)
