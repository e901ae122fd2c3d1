use Rattle.std.proofs.Common.{◌≡◌, take}
use Rattle.std.specs.List.{list_all, list_any}
use Rattle.ri_base.specs.Expression.{expr_tree}
use Rattle.ri_base.specs.Keeps.{Keeps}
use Rattle.range_masks.specs.Masks.{IsMask}
use Rattle.range_masks.specs.May.{may}
use Rattle.range_masks.proofs.expression.+masks.Given as goal

abbrev pub invariant-mask_of_each-loop-x : goal.invariant-mask_of_each-loop-x
invariant-mask_of_each-loop-x g l = record {
  keeps : Keeps g.P.Postings.documents g.P.Postings.faults g.P.Postings.sound g.P.Postings.intact g.P.Postings.quiet l.initial.part l.part;
  undamaged : g.P.Postings.damage l.part ≡ g.P.Postings.damage l.initial.part;
  exact : g.P.Postings.sound l.initial.part → IsMask (λ d. list_all (λ x. may (expr_tree x) d) (take l.x-index l.all)) l.range (g.P.Postings.documents l.initial.part) l.mask;
}

abbrev pub invariant-mask_of_some-loop-x : goal.invariant-mask_of_some-loop-x
invariant-mask_of_some-loop-x g l = record {
  keeps : Keeps g.P.Postings.documents g.P.Postings.faults g.P.Postings.sound g.P.Postings.intact g.P.Postings.quiet l.initial.part l.part;
  undamaged : g.P.Postings.damage l.part ≡ g.P.Postings.damage l.initial.part;
  exact : g.P.Postings.sound l.initial.part → IsMask (λ d. list_any (λ x. may (expr_tree x) d) (take l.x-index l.all)) l.range (g.P.Postings.documents l.initial.part) l.mask;
}
