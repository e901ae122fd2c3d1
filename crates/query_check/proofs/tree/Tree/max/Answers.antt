use Rattle.std.proofs.Common.{rules, ◌≡◌, None, Some, map, sym, ◌∙◌}
use Rattle.query_check.specs.Limit.{below_limit}
use Rattle.query_check.specs.Scale.{common}
use Rattle.query_check.specs.Trees.{scaled_tree, scaled_trees}
use Rattle.query_check.proofs.Combined.{greatest_is, greatest_scale}
use Rattle.query_check.proofs.Limits.{is_below, is_beyond}
use Rattle.query_check.proofs.TreeLemmas.{scaled_tree-Max}
use Rattle.query_check.proofs.tree.Tree.max.Goals as goal

pub common_multiple-requires-clause-positive : goal.common_multiple-requires-clause-positive
common_multiple-requires-clause-positive c =
    let e : c.deref.result.now ≡ c.args.trees.items = search rules in
    rw e (rw greatest_scale at c.requires.positive)

pub returns-in_default : goal.returns-in_default
returns-in_default c =
    let found : below_limit (common (scaled_trees (map scaled_tree c.args.trees.items))) ≡ None = search rules in
    rw greatest_scale (is_beyond _ found)

pub returns : goal.returns
returns c =
    let found : below_limit (common (scaled_trees (map scaled_tree c.args.trees.items))) ≡ Some c.in-Some.scale = search rules in
    let fits = is_below _ _ found in
    (scaled_tree-Max _ c.args.trees ∙ rw fits.0 (sym (greatest_is _)), rw greatest_scale fits.1)
