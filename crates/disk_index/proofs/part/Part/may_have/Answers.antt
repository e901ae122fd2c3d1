use Rattle.std.proofs.Common.{◌≡◌, ◌/◌, ◌==◌, false, List, is_some, sym, ap, ◌∙◌}
use Rattle.std.specs.List.{list_any}
use Rattle.ri_base.specs.Documents.{Document}
use Rattle.ri_base.specs.Places.{postings_of}
use Rattle.ri_base.specs.declared.places.Place.{Place}
use Rattle.disk_index.specs.Kept.{Kept, place_of}
use Rattle.disk_index.specs.Parts.{source_of}
use Rattle.disk_index.specs.Presence.{may_have}
use Rattle.disk_index.specs.declared.part.Part.{Part}
use Rattle.disk_index.proofs.PresenceLemmas.{nowhere}
use Rattle.disk_index.proofs.part.Part.may_have.Goals as goal

pub returns-in-Memory-clause-nowhere : goal.returns-in-Memory-clause-nowhere
returns-in-Memory-clause-nowhere c = λ told backed none.
    let here : may_have (source_of c.args.self.now) c.args.range c.args.term.now ≡ false =
    ap (λ (p : Part). may_have (source_of p) c.args.range c.args.term.now) c.in-Memory.is
    ∙ ap (λ (docs : List Document). list_any (λ (p : Place). p.id / 64 == c.args.range) (postings_of c.args.term.now docs)) (sym c.deref.ensures) ∙ sym c.has_term.ensures ∙ none in
    nowhere told (source_of c.args.self.now) c.args.range c.args.term.now backed here

pub returns-in-Disk-clause-nowhere : goal.returns-in-Disk-clause-nowhere
returns-in-Disk-clause-nowhere c = λ told backed none.
    let here : may_have (source_of c.args.self.now) c.args.range c.args.term.now ≡ false =
    ap (λ (p : Part). may_have (source_of p) c.args.range c.args.term.now) c.in-Disk.is
    ∙ ap (λ (kept : Kept). is_some (place_of kept.dictionary c.args.term.now c.args.range)) (sym c.deref-in-Disk.ensures) ∙ sym c.has_block.ensures ∙ none in
    nowhere told (source_of c.args.self.now) c.args.range c.args.term.now backed here
