use Rattle.std.proofs.Common.{◌≡◌, List, sym, ap, subst, ◌∙◌}
use Rattle.std.specs.List.{IsDistinct}
use Rattle.std.specs.Str.{bytes_eq}
use Rattle.disk_index.specs.Snapshots as snapshots
use Rattle.disk_index.specs.Snapshots.{IsSnapshot, Marked}
use Rattle.holdings.specs.Contents.{Contents}
use Rattle.holdings.specs.MarkedParts.{docnos_of}
use Rattle.holdings.proofs.RoomLemmas.{live-closed}
use Rattle.holdings.proofs.holdings.Holdings.snapshot.Goals as goal

pub of-requires : goal.of-requires
of-requires c = subst IsSnapshot (sym c.closed_parts.ensures.parts) c.closed_parts.ensures.fits

pub returns-clause-documents : goal.returns-clause-documents
returns-clause-documents c = λ told.
    ap (snapshots.live told) (c.in_ok-of.ensures ∙ c.closed_parts.ensures.parts ∙ ap (λ (x : Contents). x.parts.closed) c.in_ok-seal.ensures.closed) ∙ live-closed told c.args.self.now.parts

pub returns-clause-distinct : goal.returns-clause-distinct
returns-clause-distinct c = subst (λ (ms : List Marked). IsDistinct bytes_eq (docnos_of ms)) (sym (c.in_ok-of.ensures ∙ c.closed_parts.ensures.parts)) c.closed_parts.ensures.distinct
