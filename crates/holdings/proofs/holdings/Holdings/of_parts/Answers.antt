use Rattle.std.proofs.Common.{◌≤◌, List, arith, subst}
use Rattle.std.proofs.lemmas.Result.{err_from_is_err_and}
use Rattle.disk_index.specs.Snapshots.{Marked, documents_held}
use Rattle.holdings.specs.MarkedParts.{tokens_held}
use Rattle.holdings.specs.Placing.{IsPartsFault}
use Rattle.holdings.proofs.DistinctLemmas.{honest-fault}
use Rattle.holdings.proofs.holdings.Holdings.of_parts.Goals as goal

pub returns-in_err-documents-clause-honest : goal.returns-in_err-documents-clause-honest
returns-in_err-documents-clause-honest c = λ documents tokens distinct.
    let p = err_from_is_err_and c.from_residual.result c.from_residual.ensures.1 in
    let fault = subst (λ (ps : List Marked). IsPartsFault c.args.limits ps c.in_err-documents.field-0.0) c.deref.ensures.value c.in_err-documents.ensures.fault in
    rw (p.1, p.2) (honest-fault c.args.limits c.args.parts.items c.in_err-documents.field-0.0 fault documents tokens distinct)

pub returns-in_err-parts-clause-fault : goal.returns-in_err-parts-clause-fault
returns-in_err-parts-clause-fault c =
    let p = err_from_is_err_and c.from_residual-in_err-parts.result c.from_residual-in_err-parts.ensures.1 in
    let documents : documents_held c.args.parts.items ≤ c.args.limits.held_docs =
    subst (λ (ps : List Marked). documents_held ps ≤ c.args.limits.held_docs) c.deref.ensures.value (omega (arith, c.in_ok-documents.ensures.documents, c.in_ok-documents.ensures.documents_fit)) in
    let tokens : tokens_held c.args.parts.items ≤ c.args.limits.held_tokens =
    subst (λ (ps : List Marked). tokens_held ps ≤ c.args.limits.held_tokens) c.deref.ensures.value (omega (arith, c.in_ok-documents.ensures.tokens, c.in_ok-documents.ensures.tokens_fit)) in
    rw (p.1, p.2) (c.in_err-parts.ensures.fault c.args.limits (documents, tokens))

pub returns-in_err-parts-clause-honest : goal.returns-in_err-parts-clause-honest
returns-in_err-parts-clause-honest c = λ documents tokens distinct.
    let p = err_from_is_err_and c.from_residual-in_err-parts.result c.from_residual-in_err-parts.ensures.1 in
    rw (p.1, p.2) (honest-fault c.args.limits c.args.parts.items c.in_err-parts.field-0.0 (c.in_err-parts.ensures.fault c.args.limits (documents, tokens)) documents tokens distinct)
