use Rattle.std.proofs.Common.{◌≡◌, length, take, map, All}
use Rattle.ri_base.specs.Collection.{document_at}
use Rattle.ri_base.specs.Keeps.{Keeps}
use Rattle.ri_base.specs.Pair.{Pair}
use Rattle.query_check.specs.Leaves.{leaf_tree}
use Rattle.document_scoring.specs.Counters.{IsFound, found_count}
use Rattle.document_scoring.specs.Counts.{count_in}
use Rattle.document_scoring.specs.Told.{IsLeafTold}
use Rattle.document_scoring.proofs.found.all_found.Given as goal

abbrev pub invariant-loop-number : goal.invariant-loop-number
invariant-loop-number g l = record {
  keeps : Keeps g.P.Postings.documents g.P.Postings.faults g.P.Postings.sound g.P.Postings.intact g.P.Postings.quiet l.fn.part l.part;
  undamaged : g.P.Postings.damage l.part ≡ g.P.Postings.damage l.fn.part;
  so_far : g.P.Postings.sound l.fn.part → (w : Pair)
      → map (found_count (document_at (g.P.Postings.documents l.fn.part) l.id).fields w) l.all.items
      ≡ map (count_in (document_at (g.P.Postings.documents l.fn.part) l.id) w) (take l.number (map leaf_tree l.leaves));
  each : length l.all.items ≡ l.number;
  told : All (IsLeafTold (λ t. g.P.Postings.told l.fn.part t l.id)) (take l.number (map leaf_tree l.leaves));
  found : All (IsFound (document_at (g.P.Postings.documents l.fn.part) l.id).fields) l.all.items;
}
