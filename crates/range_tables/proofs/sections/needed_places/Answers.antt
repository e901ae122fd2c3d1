use Rattle.std.proofs.Common.{◌∙◌, inl, ap}
use Rattle.range_bounds.specs.Most.{capped}
use Rattle.range_tables.proofs.sections.needed_places.Goals as goal

pub returns-clause-exact : goal.returns-clause-exact
returns-clause-exact g c = λ sound. inl (c.min.ensures ∙ ap capped (c.in_ok-most.ensures.exact sound))
