use Rattle.std.proofs.Common.{◌≡◌, ◌∙◌, [], ap, sym, subst, List, ℕ, get_or}
use Rattle.disk_index.specs.Parts.{OnDisk, outlines_of}
use Rattle.disk_index.specs.Snapshots.{documents_held}
use Rattle.holdings.specs.Contents.{Contents}
use Rattle.holdings.specs.Kept.{AreCounted}
use Rattle.holdings.specs.MarkedParts.{docnos_of, filled, tokens_held}
use Rattle.holdings.specs.Parts.{Parts, all_parts}
use Rattle.holdings.proofs.MovedLemmas.{AreCounted-moved, docnos-all, documents-moved, tokens-moved}
use Rattle.holdings.proofs.holdings.Holdings.store_part.Goals as goal

pub invariant_of-self : goal.invariant_of-self
invariant_of-self c =
    let s = c.self.inside in
    let same : c.args.index.value.outlines ≡ outlines_of (get_or s.parts.closed c.args.number (filled [] [])).source =
    c.requires.same ∙ sym (ap (λ (q : Contents). outlines_of (get_or q.parts.closed c.args.number (filled [] [])).source) c.self.view_is) in
    subst (λ (p : Parts). AreCounted p s.limits s.documents s.tokens) (sym c.store_part.ensures)
    (AreCounted-moved s.parts s.limits s.documents s.tokens c.args.number (OnDisk c.args.index.value) same c.self.invariant)

pub returns-clause-docnos : goal.returns-clause-docnos
returns-clause-docnos c =
    let s = c.self.inside in
    let same : c.args.index.value.outlines ≡ outlines_of (get_or s.parts.closed c.args.number (filled [] [])).source =
    c.requires.same ∙ sym (ap (λ (q : Contents). outlines_of (get_or q.parts.closed c.args.number (filled [] [])).source) c.self.view_is) in
    ap (λ (p : Parts). docnos_of (all_parts p)) c.store_part.ensures ∙ docnos-all s.parts c.args.number (OnDisk c.args.index.value) same ∙ ap (λ (x : Contents). docnos_of (all_parts x.parts)) c.self.view_is

pub returns-clause-documents : goal.returns-clause-documents
returns-clause-documents c =
    let s = c.self.inside in
    let same : c.args.index.value.outlines ≡ outlines_of (get_or s.parts.closed c.args.number (filled [] [])).source =
    c.requires.same ∙ sym (ap (λ (q : Contents). outlines_of (get_or q.parts.closed c.args.number (filled [] [])).source) c.self.view_is) in
    ap (λ (p : Parts). documents_held (all_parts p)) c.store_part.ensures ∙ documents-moved s.parts c.args.number (OnDisk c.args.index.value) same ∙ ap (λ (x : Contents). documents_held (all_parts x.parts)) c.self.view_is

pub returns-clause-tokens : goal.returns-clause-tokens
returns-clause-tokens c =
    let s = c.self.inside in
    let same : c.args.index.value.outlines ≡ outlines_of (get_or s.parts.closed c.args.number (filled [] [])).source =
    c.requires.same ∙ sym (ap (λ (q : Contents). outlines_of (get_or q.parts.closed c.args.number (filled [] [])).source) c.self.view_is) in
    ap (λ (p : Parts). tokens_held (all_parts p)) c.store_part.ensures ∙ tokens-moved s.parts c.args.number (OnDisk c.args.index.value) same ∙ ap (λ (x : Contents). tokens_held (all_parts x.parts)) c.self.view_is
