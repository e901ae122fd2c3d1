use Rattle.std.proofs.Common.{◌/◌, ◌==◌, List, is_some, sym, ap, ◌∙◌}
use Rattle.std.specs.List.{list_any}
use Rattle.ri_base.specs.Documents.{Document}
use Rattle.ri_base.specs.Places.{postings_of}
use Rattle.ri_base.specs.declared.places.Place.{Place}
use Rattle.disk_index.specs.Kept.{Kept, place_of}
use Rattle.disk_index.specs.Parts.{source_of}
use Rattle.disk_index.specs.Presence.{may_have}
use Rattle.disk_index.specs.declared.part.Part.{Part}
use Rattle.disk_index.proofs.NextLemmas.{IsNext-same}
use Rattle.disk_index.proofs.part.Part.next_with.Goals as goal

pub returns-in-Memory : goal.returns-in-Memory
returns-in-Memory c =
    IsNext-same _ _ c.args.from _
    (λ n. ap (λ (p : Part). may_have (source_of p) n c.args.term.now) c.in-Memory.is
    ∙ ap (λ (docs : List Document). list_any (λ (p : Place). p.id / 64 == n) (postings_of c.args.term.now docs)) (sym c.deref.ensures))
    c.next_in_memory.ensures

pub returns-in-Disk : goal.returns-in-Disk
returns-in-Disk c =
    IsNext-same _ _ c.args.from _
    (λ n. ap (λ (p : Part). may_have (source_of p) n c.args.term.now) c.in-Disk.is
    ∙ ap (λ (kept : Kept). is_some (place_of kept.dictionary c.args.term.now n)) (sym c.deref-in-Disk.ensures))
    c.next_block.ensures
