use Rattle.std.proofs.Common.{◌≤◌, subst}
use Rattle.disk_index.specs.Snapshots.{IsSnapshot, documents_held}
use Rattle.holdings.specs.Contents.{Contents}
use Rattle.holdings.specs.MarkedParts.{tokens_held}
use Rattle.holdings.proofs.LiveLemmas.{docnos-live}
use Rattle.holdings.proofs.SumLemmas.{closed-documents, closed-fits, closed-tokens}
use Rattle.holdings.proofs.holdings.Holdings.closed_parts.Goals as goal

pub returns-clause-docnos : goal.returns-clause-docnos
returns-clause-docnos c = λ told. docnos-live told c.args.self.now.parts.closed

pub returns-clause-fits : goal.returns-clause-fits
returns-clause-fits c =
    let s = c.self.inside in
    subst (λ (x : Contents). IsSnapshot x.parts.closed) c.self.view_is (closed-fits s.parts s.limits s.documents s.tokens c.self.invariant)

pub returns-clause-documents : goal.returns-clause-documents
returns-clause-documents c =
    let s = c.self.inside in
    subst (λ (x : Contents). documents_held x.parts.closed ≤ x.limits.held_docs) c.self.view_is (closed-documents s.parts s.limits s.documents s.tokens c.self.invariant)

pub returns-clause-tokens : goal.returns-clause-tokens
returns-clause-tokens c =
    let s = c.self.inside in
    subst (λ (x : Contents). tokens_held x.parts.closed ≤ x.limits.held_tokens) c.self.view_is (closed-tokens s.parts s.limits s.documents s.tokens c.self.invariant)
