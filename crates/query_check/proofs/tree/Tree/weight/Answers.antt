use Rattle.std.proofs.Common.{rules, arith, ◌≡◌, ◌*◌, None, Some, map, sym, ◌∙◌}
use Rattle.query_check.specs.Limit.{below_limit}
use Rattle.query_check.specs.Scale.{total, weighted_common}
use Rattle.query_check.specs.Trees.{weighted_scaled_tree, weighted_scaled_trees}
use Rattle.query_check.proofs.Combined.{weighed_is, weighed_parts, weighed_common, weighed_total, weighed_too_large, weighed_fits}
use Rattle.query_check.proofs.Limits.{is_beyond}
use Rattle.query_check.proofs.TreeLemmas.{scaled_tree-Weight}
use Rattle.query_check.proofs.tree.Tree.weight.Goals as goal

pub weighted_common_multiple-requires-clause-positive : goal.weighted_common_multiple-requires-clause-positive
weighted_common_multiple-requires-clause-positive c =
    let e : c.deref.result.now ≡ c.args.trees.items = search rules in
    rw e (weighed_parts _ c.requires.positive).1

pub returns-in_default : goal.returns-in_default
returns-in_default c =
    let found : below_limit (weighted_common (weighted_scaled_trees (map weighted_scaled_tree c.args.trees.items))) ≡ None = search rules in
    omega (arith, is_beyond _ found, weighed_common _ c.requires.positive)

pub returns-in_default-total : goal.returns-in_default-total
returns-in_default-total c =
    let found : below_limit (total (weighted_scaled_trees (map weighted_scaled_tree c.args.trees.items))) ≡ None = search rules in
    omega (arith, is_beyond _ found, weighed_total _ c.requires.positive)

pub returns-in_default-product : goal.returns-in_default-product
returns-in_default-product c =
    let multiple : below_limit (weighted_common (weighted_scaled_trees (map weighted_scaled_tree c.args.trees.items))) ≡ Some c.in-Some.multiple = search rules in
    let sum : below_limit (total (weighted_scaled_trees (map weighted_scaled_tree c.args.trees.items))) ≡ Some c.in-Some-total.total = search rules in
    let found : below_limit (c.in-Some-total.total * c.in-Some.multiple) ≡ None = search rules in
    weighed_too_large _ _ _ multiple sum found

pub returns : goal.returns
returns c =
    let multiple : below_limit (weighted_common (weighted_scaled_trees (map weighted_scaled_tree c.args.trees.items))) ≡ Some c.in-Some.multiple = search rules in
    let sum : below_limit (total (weighted_scaled_trees (map weighted_scaled_tree c.args.trees.items))) ≡ Some c.in-Some-total.total = search rules in
    let found : below_limit (c.in-Some-total.total * c.in-Some.multiple) ≡ Some c.in-Some-product.scale = search rules in
    let fits = weighed_fits _ _ _ _ multiple sum found in
    (scaled_tree-Weight _ c.args.trees ∙ rw fits.0 (sym (weighed_is _)), fits.1)
