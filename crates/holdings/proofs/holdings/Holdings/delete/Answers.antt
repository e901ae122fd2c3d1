use Rattle.std.proofs.Common.{◌∙◌, ap, sym, subst}
use Rattle.disk_index.specs.Snapshots.{documents_held}
use Rattle.holdings.specs.Contents.{Contents}
use Rattle.holdings.specs.Kept.{AreCounted}
use Rattle.holdings.specs.MarkedParts.{tokens_held}
use Rattle.holdings.specs.Parts.{Parts, all_parts, live, without}
use Rattle.holdings.proofs.RoomLemmas.{live-without_docno}
use Rattle.holdings.proofs.SumLemmas.{AreCounted-without, documents-without, tokens-without}
use Rattle.holdings.proofs.holdings.Holdings.delete.Goals as goal

pub invariant_of-self-2 : goal.invariant_of-self-2
invariant_of-self-2 c =
    let s = c.self.inside in
    subst (λ (p : Parts). AreCounted p s.limits s.documents s.tokens) (sym (c.mark.ensures.marked c.if-not-mark.false)) (AreCounted-without s.parts s.limits s.documents s.tokens c.self.invariant c.args.docno.now)

pub returns-clause-live : goal.returns-clause-live
returns-clause-live c = λ told.
    ap (live told) (c.mark.ensures.marked c.if-not-mark.false) ∙ live-without_docno told c.self.inside.parts c.args.docno.now ∙ ap (λ (x : Contents). without c.args.docno.now (live told x.parts)) c.self.view_is

pub returns-clause-documents : goal.returns-clause-documents
returns-clause-documents c =
    ap (λ (p : Parts). documents_held (all_parts p)) (c.mark.ensures.marked c.if-not-mark.false) ∙ documents-without c.self.inside.parts c.args.docno.now
    ∙ ap (λ (x : Contents). documents_held (all_parts x.parts)) c.self.view_is

pub returns-clause-tokens : goal.returns-clause-tokens
returns-clause-tokens c =
    ap (λ (p : Parts). tokens_held (all_parts p)) (c.mark.ensures.marked c.if-not-mark.false) ∙ tokens-without c.self.inside.parts c.args.docno.now
    ∙ ap (λ (x : Contents). tokens_held (all_parts x.parts)) c.self.view_is
