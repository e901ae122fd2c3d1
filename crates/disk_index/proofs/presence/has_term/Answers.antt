use Rattle.std.proofs.Common.{◌/◌, ◌==◌, ap, ◌∙◌}
use Rattle.std.specs.List.{list_any}
use Rattle.ri_base.specs.declared.places.Place.{Place}
use Rattle.disk_index.proofs.presence.has_term.Goals as goal

pub returns : goal.returns
returns c = c.has_posting.ensures ∙ ap (list_any (λ (p : Place). p.id / 64 == c.args.range)) c.term_postings.ensures.same
