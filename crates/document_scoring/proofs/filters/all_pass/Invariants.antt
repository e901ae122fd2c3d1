use Rattle.std.proofs.Common.{◌≡◌, true, map, take}
use Rattle.std.specs.List.{All, list_all}
use Rattle.ri_base.specs.Collection.{document_at}
use Rattle.ri_base.specs.Keeps.{Keeps}
use Rattle.ri_base.specs.Query.{filter_tree}
use Rattle.document_scoring.specs.Candidates.{passes}
use Rattle.document_scoring.specs.Told.{IsFilterTold}
use Rattle.document_scoring.proofs.filters.all_pass.Given as goal

abbrev pub invariant-loop-filter : goal.invariant-loop-filter
invariant-loop-filter g l = record {
  keeps : Keeps g.P.Postings.documents g.P.Postings.faults g.P.Postings.sound g.P.Postings.intact g.P.Postings.quiet l.fn.part l.part;
  undamaged : g.P.Postings.damage l.part ≡ g.P.Postings.damage l.fn.part;
  so_far : g.P.Postings.sound l.fn.part → list_all (passes (document_at (g.P.Postings.documents l.fn.part) l.id)) (map filter_tree (take l.filter-index l.filters)) ≡ true;
  told : All (λ f. IsFilterTold (λ t. g.P.Postings.told l.fn.part t l.id) (filter_tree f)) (take l.filter-index l.filters);
}
