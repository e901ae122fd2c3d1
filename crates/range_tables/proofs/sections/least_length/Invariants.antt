use Rattle.std.proofs.Common.{◌≡◌, ◌≤◌}
use Rattle.ri_base.specs.declared.limits.TheConstants.{MAX_DOC_TOKENS}
use Rattle.range_bounds.specs.Ranges.{least_length}
use Rattle.range_tables.specs.Sections.{section}
use Rattle.range_bounds.specs.Tables.{AreFormed}
use Rattle.range_tables.proofs.sections.least_length.Given as goal

abbrev pub invariant-loop-id : goal.invariant-loop-id
invariant-loop-id g l = record {
  low : l.first ≤ l.id;
  exact : l.least ≡ least_length (section (g.P.Postings.documents l.part) l.first l.id);
  short : l.least ≤ MAX_DOC_TOKENS;
  formed : AreFormed (section (g.P.Postings.documents l.part) l.first l.id);
}
