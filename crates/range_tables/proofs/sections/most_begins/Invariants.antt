use Rattle.std.proofs.Common.{◌≡◌, ◌≤◌}
use Rattle.range_bounds.specs.Ranges.{most_begins}
use Rattle.range_tables.specs.Sections.{section}
use Rattle.range_tables.proofs.sections.most_begins.Given as goal

abbrev pub invariant-loop-id : goal.invariant-loop-id
invariant-loop-id g l = record {
  low : l.first ≤ l.id;
  exact : l.most ≡ most_begins (section (g.P.Postings.documents l.part) l.first l.id) l.name;
}
