use Rattle.std.proofs.Common.{rules, arith, ◌≡◌, Err, map, refl}
use Rattle.ri_base.specs.Query.{belief_tree, belief_trees}
use Rattle.query_check.specs.Check.{combined}
use Rattle.query_check.specs.Scaling.{Scales}
use Rattle.query_check.specs.Trees.{scaled_tree, scaled_trees}
use Rattle.query_check.proofs.Combined.{combined_parts, combined_common}
use Rattle.query_check.proofs.Numbering.{too_large_of, trees_scaled, combine_tree, combine_count}
use Rattle.query_check.proofs.scaling.scaled.Goals as goal

pub scale_all-requires-clause-positive : goal.scale_all-requires-clause-positive
scale_all-requires-clause-positive c = (combined_parts _ (rw (combine_tree 0 _ (belief_trees (map belief_tree c.args.all.now)) refl) at c.requires.positive)).1

pub scale_all-requires-clause-room : goal.scale_all-requires-clause-room
scale_all-requires-clause-room c = omega (arith, combine_count 0 _ (belief_trees (map belief_tree c.args.all.now)) refl, c.requires.room)

pub returns-in_err-scale_all : goal.returns-in_err-scale_all
returns-in_err-scale_all c =
    let tree = combine_tree 0 _ (belief_trees (map belief_tree c.args.all.now)) refl in
    let r : c.from_residual.result ≡ Err c.in_err-scale_all.field-0.0 = search rules in
    rw (r, tree) (too_large_of c.in_err-scale_all.field-0.0 _ _ (combined_common _ (rw tree at c.requires.positive)) c.in_err-scale_all.ensures.trees)

pub combine-requires-clause-scaled : goal.combine-requires-clause-scaled
combine-requires-clause-scaled c = rw c.in_ok-scale_all.ensures.trees (trees_scaled 0 _)

pub combine-requires-clause-positive : goal.combine-requires-clause-positive
combine-requires-clause-positive c = rw c.in_ok-scale_all.ensures.trees (rw (combine_tree 0 _ (belief_trees (map belief_tree c.args.all.now)) refl) at c.requires.positive)

pub returns : goal.returns
returns c =
    let h : Scales c.combine.result (combined (scaled_trees (map scaled_tree c.in_ok-scale_all.field-0.items))) = search rules in
    rw (combine_tree 0 _ (belief_trees (map belief_tree c.args.all.now)) refl) (rw c.in_ok-scale_all.ensures.trees at h)
