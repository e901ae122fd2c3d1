use Rattle.std.proofs.Common.{◌∙◌, ap, sym}
use Rattle.disk_index.specs.Snapshots.{documents_held}
use Rattle.holdings.specs.Contents.{Contents}
use Rattle.holdings.specs.Parts.{all_parts}
use Rattle.holdings.proofs.LiveLemmas.{length-documents_of}
use Rattle.holdings.proofs.holdings.Holdings.held_docs.Goals as goal

pub returns-clause-count : goal.returns-clause-count
returns-clause-count c = c.self.invariant.documents_are ∙ ap (λ (x : Contents). documents_held (all_parts x.parts)) c.self.view_is

pub returns-clause-documents : goal.returns-clause-documents
returns-clause-documents c = λ told.
    c.self.invariant.documents_are ∙ ap (λ (x : Contents). documents_held (all_parts x.parts)) c.self.view_is ∙ sym (length-documents_of told (all_parts c.args.self.now.parts))
