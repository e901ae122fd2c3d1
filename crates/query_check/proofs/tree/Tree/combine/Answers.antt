use Rattle.std.proofs.Common.{rules, arith, ◌≡◌, ◌*◌, None, Some, length, map, sym, ◌∙◌}
use Rattle.query_check.specs.Limit.{below_limit}
use Rattle.query_check.specs.Scale.{common}
use Rattle.query_check.specs.Trees.{scaled_tree, scaled_trees}
use Rattle.query_check.proofs.Combined.{combined_is, combined_parts, combined_common, combined_too_large, combined_fits}
use Rattle.query_check.proofs.Limits.{is_beyond}
use Rattle.query_check.proofs.TreeLemmas.{scaled_tree-Combine}
use Rattle.query_check.proofs.tree.Tree.combine.Goals as goal

pub common_multiple-requires-clause-positive : goal.common_multiple-requires-clause-positive
common_multiple-requires-clause-positive c =
    let e : c.deref.result.now ≡ c.args.trees.items = search rules in
    rw e (combined_parts _ c.requires.positive).1

pub returns-in_default : goal.returns-in_default
returns-in_default c =
    let found : below_limit (common (scaled_trees (map scaled_tree c.args.trees.items))) ≡ None = search rules in
    omega (arith, is_beyond _ found, combined_common _ c.requires.positive)

pub returns-in_default-product : goal.returns-in_default-product
returns-in_default-product c =
    let multiple : below_limit (common (scaled_trees (map scaled_tree c.args.trees.items))) ≡ Some c.in-Some.multiple = search rules in
    let found : below_limit (length c.args.trees.items * c.in-Some.multiple) ≡ None = search rules in
    combined_too_large c.args.trees.items _ multiple found

pub returns : goal.returns
returns c =
    let multiple : below_limit (common (scaled_trees (map scaled_tree c.args.trees.items))) ≡ Some c.in-Some.multiple = search rules in
    let found : below_limit (length c.args.trees.items * c.in-Some.multiple) ≡ Some c.in-Some-product.scale = search rules in
    let fits = combined_fits c.args.trees.items _ _ multiple found in
    (scaled_tree-Combine _ c.args.trees ∙ rw fits.0 (sym (combined_is _)), fits.1)
