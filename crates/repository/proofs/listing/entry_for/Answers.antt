use Rattle.std.proofs.Common.{◌∙◌, ap, subst, sym}
use Rattle.disk_index.specs.Parts.{source_of}
use Rattle.repository.specs.Entries.{IsOnDisk}
use Rattle.repository.proofs.listing.entry_for.Goals as goal

pub unreachable-requires : goal.unreachable-requires
unreachable-requires c = subst IsOnDisk (sym c.part.ensures.part ∙ ap source_of c.in-Memory.is) c.requires
