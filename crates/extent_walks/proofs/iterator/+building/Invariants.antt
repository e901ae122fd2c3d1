use Rattle.std.proofs.Common.{◌≡◌, map, take}
use Rattle.ri_base.specs.Collection.{document_at}
use Rattle.ri_base.specs.Expression.{EachWordOf, expr_tree, expr_trees}
use Rattle.ri_base.specs.Keeps.{Keeps}
use Rattle.extent_lists.specs.Plans.{GiveEach}
use Rattle.extent_walks.specs.Walks.{AreKept, plans}
use Rattle.extent_walks.proofs.iterator.+building.Given as goal

abbrev pub invariant-group_of-loop-x : goal.invariant-group_of-loop-x
invariant-group_of-loop-x g l = record {
  keeps : Keeps g.P.Postings.documents g.P.Postings.faults g.P.Postings.sound g.P.Postings.intact g.P.Postings.quiet l.initial.postings l.postings;
  undamaged : g.P.Postings.damage l.postings ≡ g.P.Postings.damage l.initial.postings;
  gives : g.P.Postings.sound l.initial.postings → GiveEach (plans l.out.items) (map expr_tree (take l.x-index l.all)) (document_at (g.P.Postings.documents l.initial.postings) l.id);
  kept : AreKept l.out.items;
  told : EachWordOf (λ t. g.P.Postings.told l.initial.postings t l.id) (expr_trees (map expr_tree (take l.x-index l.all)));
}
