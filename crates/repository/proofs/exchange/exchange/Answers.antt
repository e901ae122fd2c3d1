use Rattle.std.proofs.Common.{◌≤◌, ◌∙◌, ap, arith, subst, sym}
use Rattle.std.specs.List.{All, IsDistinct}
use Rattle.std.specs.Str.{bytes_eq}
use Rattle.ri_base.specs.declared.limits.TheConstants.{MAX_PART_DOCS}
use Rattle.disk_index.specs.Snapshots.{Marked, documents_held}
use Rattle.holdings.specs.Contents.{Contents}
use Rattle.holdings.specs.MarkedParts.{IsWhole, IsWritable, docnos_of, tokens_held}
use Rattle.repository.specs.Ties.{Begins}
use Rattle.repository.proofs.ExchangeLemmas.{docnos-exchanged, documents-exchanged, tokens-exchanged, writable-exchanged}
use Rattle.repository.proofs.TieLemmas.{tied-closed}
use Rattle.repository.proofs.exchange.exchange.Goals as goal

pub exchanged_parts-requires-clause-begins : goal.exchanged_parts-requires-clause-begins
exchanged_parts-requires-clause-begins c =
    subst (Begins c.args.job.snapshot) (sym (c.closed_parts.ensures.parts ∙ ap (λ (x : Contents). x.parts.closed) c.in_ok-seal.ensures.closed)) (tied-closed c.args.held.now c.args.job c.requires.tied).begins

pub exchange-requires-clause-writable : goal.exchange-requires-clause-writable
exchange-requires-clause-writable c =
    let closed = c.closed_parts.result.now in
    let fits = c.args.held.now.limits.part_fits in
    let most = c.requires.tied.most_is in
    let small : c.args.job.most ≤ MAX_PART_DOCS = omega (arith, fits, most) in
    writable-exchanged c.args.job closed c.in_ok-parts.parts.items c.in_ok-parts.ensures (subst (Begins c.args.job.snapshot) (sym (c.closed_parts.ensures.parts ∙ ap (λ (x : Contents). x.parts.closed) c.in_ok-seal.ensures.closed)) (tied-closed c.args.held.now c.args.job c.requires.tied).begins) (subst (All IsWhole) (sym c.closed_parts.ensures.parts) c.closed_parts.ensures.whole) small
    (subst (All (λ (m : Marked). IsWritable m.source)) (sym c.closed_parts.ensures.parts) c.closed_parts.ensures.writable)

pub exchange-requires-clause-documents : goal.exchange-requires-clause-documents
exchange-requires-clause-documents c =
    let closed = c.closed_parts.result.now in
    let fewer = documents-exchanged c.args.job closed c.in_ok-parts.parts.items c.in_ok-parts.ensures (subst (Begins c.args.job.snapshot) (sym (c.closed_parts.ensures.parts ∙ ap (λ (x : Contents). x.parts.closed) c.in_ok-seal.ensures.closed)) (tied-closed c.args.held.now c.args.job c.requires.tied).begins) (subst (All IsWhole) (sym c.closed_parts.ensures.parts) c.closed_parts.ensures.whole) in
    let same = ap documents_held c.closed_parts.ensures.parts in
    let most = c.closed_parts.ensures.documents in
    omega (arith, fewer, same, most)

pub exchange-requires-clause-tokens : goal.exchange-requires-clause-tokens
exchange-requires-clause-tokens c =
    let closed = c.closed_parts.result.now in
    let fewer = tokens-exchanged c.args.job closed c.in_ok-parts.parts.items c.in_ok-parts.ensures (subst (Begins c.args.job.snapshot) (sym (c.closed_parts.ensures.parts ∙ ap (λ (x : Contents). x.parts.closed) c.in_ok-seal.ensures.closed)) (tied-closed c.args.held.now c.args.job c.requires.tied).begins) (subst (All IsWhole) (sym c.closed_parts.ensures.parts) c.closed_parts.ensures.whole) in
    let same = ap tokens_held c.closed_parts.ensures.parts in
    let most = c.closed_parts.ensures.tokens in
    omega (arith, fewer, same, most)

pub exchange-requires-clause-distinct : goal.exchange-requires-clause-distinct
exchange-requires-clause-distinct c =
    let closed = c.closed_parts.result.now in
    let same = docnos-exchanged c.args.job closed c.in_ok-parts.parts.items c.in_ok-parts.ensures (subst (Begins c.args.job.snapshot) (sym (c.closed_parts.ensures.parts ∙ ap (λ (x : Contents). x.parts.closed) c.in_ok-seal.ensures.closed)) (tied-closed c.args.held.now c.args.job c.requires.tied).begins) (subst (All IsWhole) (sym c.closed_parts.ensures.parts) c.closed_parts.ensures.whole) in
    subst (IsDistinct bytes_eq) (sym (same ∙ ap docnos_of c.closed_parts.ensures.parts)) c.closed_parts.ensures.distinct
