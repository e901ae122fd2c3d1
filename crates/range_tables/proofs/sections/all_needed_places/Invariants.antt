use Rattle.std.proofs.Common.{◌≡◌, map, take}
use Rattle.std.specs.List.{AllZip}
use Rattle.ri_base.specs.Keeps.{Keeps}
use Rattle.query_check.specs.Leaves.{leaf_tree}
use Rattle.range_bounds.specs.Ranges.{range_documents}
use Rattle.range_tables.specs.Needs.{IsTermCount}
use Rattle.range_tables.proofs.sections.all_needed_places.Given as goal

abbrev pub invariant-loop-term : goal.invariant-loop-term
invariant-loop-term g l = record {
  keeps : Keeps g.P.Postings.documents g.P.Postings.faults g.P.Postings.sound g.P.Postings.intact g.P.Postings.quiet l.initial.part l.part;
  undamaged : g.P.Postings.damage l.part ≡ g.P.Postings.damage l.initial.part;
  exact : g.P.Postings.sound l.initial.part
      → AllZip (IsTermCount (map leaf_tree l.leaves) (range_documents (g.P.Postings.documents l.initial.part) l.range)) (take l.term-index l.terms) l.all.items;
}
