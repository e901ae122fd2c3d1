use Rattle.std.proofs.Common.{◌∙◌, ap, subst, sym}
use Rattle.disk_index.specs.Parts.{source_of}
use Rattle.repository.specs.Entries.{IsOnDisk}
use Rattle.repository.proofs.stored.is_on_disk.Goals as goal

pub returns-in-Memory-clause-no : goal.returns-in-Memory-clause-no
returns-in-Memory-clause-no c = λ on. absurd (subst IsOnDisk (sym c.part.ensures.part ∙ ap source_of c.in-Memory.is) on)

pub returns-in-Disk-clause-yes : goal.returns-in-Disk-clause-yes
returns-in-Disk-clause-yes c = λ _. subst IsOnDisk (sym (sym c.part.ensures.part ∙ ap source_of c.in-Disk.is)) tt
