use Rattle.std.proofs.Common.{◌≡◌, take}
use Rattle.std.specs.List.{list_any}
use Rattle.ri_base.specs.Keeps.{Keeps}
use Rattle.query_check.specs.Leaves.{leaf_tree}
use Rattle.range_masks.specs.Masks.{IsMask}
use Rattle.range_masks.specs.May.{leaf_may}
use Rattle.range_masks.proofs.query.leaves_mask.Given as goal

abbrev pub invariant-loop-leaf : goal.invariant-loop-leaf
invariant-loop-leaf g l = record {
  keeps : Keeps g.P.Postings.documents g.P.Postings.faults g.P.Postings.sound g.P.Postings.intact g.P.Postings.quiet l.initial.part l.part;
  undamaged : g.P.Postings.damage l.part ≡ g.P.Postings.damage l.initial.part;
  exact : g.P.Postings.sound l.initial.part → IsMask (λ d. list_any (λ x. leaf_may (leaf_tree x) d) (take l.leaf-index l.leaves)) l.range (g.P.Postings.documents l.initial.part) l.mask;
}
