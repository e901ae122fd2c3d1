use Rattle.std.proofs.Common.{rules, ◌≡◌, None, map, sym, ◌∙◌}
use Rattle.ri_base.specs.Query.{belief_tree, belief_trees}
use Rattle.ri_base.specs.Queries.{whole_tree}
use Rattle.query_check.specs.Check.{all_pruned, pruned, tree_from, all_leaves, whole, first_fault}
use Rattle.query_check.specs.Leaves.{leaf_tree}
use Rattle.query_check.specs.Scale.{scale}
use Rattle.query_check.specs.Trees.{scaled_tree}
use Rattle.query_check.proofs.Faults.{whole_sound, whole_few, whole_leaves, checked_is, is_checked_of}
use Rattle.query_check.proofs.Numbering.{tree_scaled}
use Rattle.query_check.proofs.query.check.Goals as goal

pub accepted-requires-clause-sound : goal.accepted-requires-clause-sound
accepted-requires-clause-sound c =
    let e : c.deref.result.now ≡ c.args.query.beliefs.items = search rules in
    rw e (whole_sound (whole_tree c.args.query) c.args.query.bounded)

pub accepted-requires-clause-few : goal.accepted-requires-clause-few
accepted-requires-clause-few c =
    let e : c.deref.result.now ≡ c.args.query.beliefs.items = search rules in
    rw e (whole_few (whole_tree c.args.query) c.args.query.bounded)

pub scale-scale-requires : goal.scale-scale-requires
scale-scale-requires c = rw c.in_ok-tree.ensures.1 (tree_scaled 0 _)

pub invariant_of-result : goal.invariant_of-result
invariant_of-result c =
    let e : c.deref.result.now ≡ c.args.query.beliefs.items = search rules in
    let none : first_fault c.args.priors.now (whole (whole_tree c.args.query)) ≡ None = rw e at c.in_ok-tree.ensures.0 in
    let tree : scaled_tree c.in_ok-tree.tree ≡ tree_from 0 (pruned (whole (whole_tree c.args.query))) = rw e at c.in_ok-tree.ensures.1 in
    let leaves : map leaf_tree c.take_all_leaves.new.leaves.items ≡ all_leaves c.args.priors.now (all_pruned (belief_trees (map belief_tree c.args.query.beliefs.items))) = search rules in
    let number : c.scale-scale.result ≡ scale (scaled_tree c.in_ok-tree.tree) = search rules in
    record { kept = is_checked_of c.args.priors.now (whole_tree c.args.query) _ _ _ c.requires.few c.args.query.bounded none (leaves ∙ sym (whole_leaves c.args.priors.now (whole_tree c.args.query))) tree number }

pub returns : goal.returns
returns c =
    let e : c.deref.result.now ≡ c.args.query.beliefs.items = search rules in
    let none : first_fault c.args.priors.now (whole (whole_tree c.args.query)) ≡ None = rw e at c.in_ok-tree.ensures.0 in
    let tree : scaled_tree c.in_ok-tree.tree ≡ tree_from 0 (pruned (whole (whole_tree c.args.query))) = rw e at c.in_ok-tree.ensures.1 in
    let leaves : map leaf_tree c.take_all_leaves.new.leaves.items ≡ all_leaves c.args.priors.now (all_pruned (belief_trees (map belief_tree c.args.query.beliefs.items))) = search rules in
    let number : c.scale-scale.result ≡ scale (scaled_tree c.in_ok-tree.tree) = search rules in
    record { exact = checked_is (whole_tree c.args.query) c.args.priors.now _ _ _ none (leaves ∙ sym (whole_leaves c.args.priors.now (whole_tree c.args.query))) tree number }
