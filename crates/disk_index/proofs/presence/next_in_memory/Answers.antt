use Rattle.std.proofs.Common.{◌/◌, ◌==◌, sym, ap}
use Rattle.std.specs.List.{list_any}
use Rattle.ri_base.specs.declared.places.Place.{Place}
use Rattle.disk_index.proofs.NextLemmas.{IsNext-same}
use Rattle.disk_index.proofs.presence.next_in_memory.Goals as goal

pub returns : goal.returns
returns c = IsNext-same _ _ c.args.from _ (λ n. ap (list_any (λ (p : Place). p.id / 64 == n)) (sym c.term_postings.ensures.same)) c.next_posting.ensures
