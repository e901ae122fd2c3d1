use Rattle.std.proofs.Common.{◌≡◌, map, take}
use Rattle.range_bounds.specs.Most.{capped}
use Rattle.range_bounds.specs.Ranges.{most_begins}
use Rattle.range_tables.specs.Sections.{section}
use Rattle.range_tables.proofs.sections.all_most_begins.Given as goal

abbrev pub invariant-loop-name : goal.invariant-loop-name
invariant-loop-name g l = l.all.items ≡ map (λ f. capped (most_begins (section (g.P.Postings.documents l.part) l.first l.end) f)) (take l.name-index l.names)
