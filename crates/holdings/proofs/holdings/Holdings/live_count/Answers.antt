use Rattle.std.proofs.Common.{◌≡◌, ◌∙◌, ap, sym, length}
use Rattle.std.proofs.lemmas.List.{length-map}
use Rattle.ri_base.specs.Documents.{Document}
use Rattle.holdings.specs.Contents.{Contents}
use Rattle.holdings.specs.MarkedParts.{docnos_of}
use Rattle.holdings.specs.Parts.{all_parts, live}
use Rattle.holdings.proofs.LiveLemmas.{docnos-live}
use Rattle.holdings.proofs.holdings.Holdings.live_count.Goals as goal

pub returns-clause-live : goal.returns-clause-live
returns-clause-live c = λ told.
    let parts = all_parts c.self.inside.parts in
    let same : length (docnos_of parts) ≡ length (live told c.self.inside.parts) =
    ap length (sym (docnos-live told parts)) ∙ length-map (live told c.self.inside.parts) (λ (d : Document). d.docno) in
    c.live_count.ensures.count ∙ same ∙ ap (λ (x : Contents). length (live told x.parts)) c.self.view_is

pub returns-clause-docnos : goal.returns-clause-docnos
returns-clause-docnos c = λ told. docnos-live told (all_parts c.args.self.now.parts)
