use Rattle.std.proofs.Common.{rules, arith, ◌≡◌, ◌≤◌, ◌^◌, None, Some, refl, sym, ◌∙◌}
use Rattle.query_check.specs.Limit.{below_limit}
use Rattle.query_check.specs.Multiples.{lcm}
use Rattle.query_check.specs.Scale.{scale}
use Rattle.query_check.specs.Trees.{scaled_tree}
use Rattle.query_check.proofs.Limits.{below_is, beyond_is, is_below, is_beyond}
use Rattle.query_check.proofs.Scales.{scaled_at, common_next, common_end}
use Rattle.query_check.proofs.tree.common_multiple.Goals as goal

pub scale-requires : goal.scale-requires
scale-requires c = (scaled_at c.args.trees.now c.loop-tree.tree-index c.tree-item.result c.loop-tree-test.true c.tree-item.is c.loop-tree.invariant.1).0

pub least_common_multiple-requires : goal.least_common_multiple-requires
least_common_multiple-requires c =
    let h = common_next c.args.trees.now c.loop-tree.tree-index c.tree-item.result c.loop-tree-test.true c.tree-item.is c.loop-tree.multiple _ c.requires.positive c.loop-tree.invariant.0 in
    let e : c.scale.result ≡ scale (scaled_tree c.tree-item.result) = search rules in
    rw e h.2

pub loop-tree-preserved : goal.loop-tree-preserved
loop-tree-preserved c =
    let h = common_next c.args.trees.now c.loop-tree.tree-index c.tree-item.result c.loop-tree-test.true c.tree-item.is c.loop-tree.multiple _ c.requires.positive c.loop-tree.invariant.0 in
    let e : c.scale.result ≡ scale (scaled_tree c.tree-item.result) = search rules in
    let found : below_limit (lcm c.loop-tree.multiple c.scale.result) ≡ Some c.in_ok-multiple.multiple = search rules in
    let is = is_below _ _ found in
    let m : c.in_ok-multiple.multiple ≡ lcm c.loop-tree.multiple (scale (scaled_tree c.tree-item.result)) = rw e at is.0 in
    (rw m h.0, (scaled_at c.args.trees.now c.loop-tree.tree-index c.tree-item.result c.loop-tree-test.true c.tree-item.is c.loop-tree.invariant.1).1, rw is.0 is.1)

pub returns-in_err-multiple : goal.returns-in_err-multiple
returns-in_err-multiple c =
    let h = common_next c.args.trees.now c.loop-tree.tree-index c.tree-item.result c.loop-tree-test.true c.tree-item.is c.loop-tree.multiple _ c.requires.positive c.loop-tree.invariant.0 in
    let e : c.scale.result ≡ scale (scaled_tree c.tree-item.result) = search rules in
    let found : below_limit (lcm c.loop-tree.multiple c.scale.result) ≡ None = search rules in
    let big : 2 ^ 60 ≤ lcm c.loop-tree.multiple (scale (scaled_tree c.tree-item.result)) = rw e at (is_beyond _ found) in
    let none : c.from_residual.result ≡ None = search rules in
    none ∙ sym (beyond_is _ (omega (arith, h.4, big)))

pub returns : goal.returns
returns c =
    let e = common_end c.args.trees.now c.loop-tree.tree-index c.loop-tree.multiple _ (omega arith) c.requires.positive c.loop-tree.invariant.0 in
    sym (below_is c.loop-tree.multiple c.loop-tree.invariant.2) ∙ rw e refl
