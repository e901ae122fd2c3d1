use Rattle.std.proofs.Common.{◌≡◌, map, take}
use Rattle.std.specs.List.{All, AllZip}
use Rattle.ri_base.specs.Collection.{document_at}
use Rattle.ri_base.specs.Expression.{EachWordOf, expr_tree, expr_trees}
use Rattle.ri_base.specs.Keeps.{Keeps}
use Rattle.extent_lists.specs.Extents.{Ext}
use Rattle.extent_lists.specs.Rows.{IsAscending, Lists}
use Rattle.extent_evaluation.proofs.evaluation.+evaluation.Given as goal

abbrev pub invariant-all_evaluated-loop-x : goal.invariant-all_evaluated-loop-x
invariant-all_evaluated-loop-x g l = record {
  keeps : Keeps g.P.Postings.documents g.P.Postings.faults g.P.Postings.sound g.P.Postings.intact g.P.Postings.quiet l.initial.postings l.postings;
  undamaged : g.P.Postings.damage l.postings ≡ g.P.Postings.damage l.initial.postings;
  listed : g.P.Postings.sound l.initial.postings → AllZip (λ x xs. Lists (Ext x (document_at (g.P.Postings.documents l.initial.postings) l.id)) xs) (map expr_tree (take l.x-index l.all)) l.lists.items;
  ascending : All IsAscending l.lists.items;
  told : EachWordOf (λ t. g.P.Postings.told l.initial.postings t l.id) (expr_trees (map expr_tree (take l.x-index l.all)));
}
