use Rattle.std.proofs.Common.{◌≡◌, ◌<◌, ℕ, None, length, get_or, map}
use Rattle.ri_base.specs.Keeps.{Keeps}
use Rattle.query_check.specs.Leaves.{leaf_tree}
use Rattle.range_bounds.specs.Ranges.{range_documents}
use Rattle.range_bounds.specs.Tables.{TellsRange}
use Rattle.range_tables.specs.Gaps.{AreAbsentTo}
use Rattle.range_tables.proofs.table.all_counts.Given as goal

abbrev pub invariant-loop-range : goal.invariant-loop-range
invariant-loop-range g l = record {
  keeps : Keeps g.P.Postings.documents g.P.Postings.faults g.P.Postings.sound g.P.Postings.intact g.P.Postings.quiet l.initial.part l.part;
  undamaged : g.P.Postings.damage l.part ≡ g.P.Postings.damage l.initial.part;
  long : length l.ranges.items ≡ l.range;
  absent : g.P.Postings.sound l.initial.part → AreAbsentTo (map leaf_tree l.leaves) (g.P.Postings.documents l.initial.part) l.range l.next;
  exact : g.P.Postings.sound l.initial.part → (range : ℕ) → range < length l.ranges.items
      → TellsRange (map leaf_tree l.leaves) l.terms l.names (range_documents (g.P.Postings.documents l.initial.part) range) (get_or l.ranges.items range None);
}
