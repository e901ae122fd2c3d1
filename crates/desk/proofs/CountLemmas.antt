-- How many documents and tokens are live is the same whatever the files are.
use Rattle.std.proofs.Common.{◌≡◌, ◌∙◌, ℕ, List, [], ◌∷◌, length, refl, sym, ap, arith, Option}
use Rattle.std.specs.Prelude.{sum_by}
use Rattle.std.proofs.lemmas.List.{length-map}
use Rattle.std.proofs.lemmas.List.Sums.{sum_by-append}
use Rattle.ri_base.specs.Collection.{token_count}
use Rattle.ri_base.specs.Documents.{Document}
use Rattle.store_ends.specs.Files.{Files}
use Rattle.seg_codec.specs.Segment.{entry_of}
use Rattle.seg_codec.specs.declared.documents.Entry.{Entry}
use Rattle.disk_index.specs.Parts.{outlines_of, reads}
use Rattle.disk_index.specs.Snapshots as snapshots
use Rattle.disk_index.specs.Snapshots.{Marked, documents_held, live_in, unmarked}
use Rattle.disk_index.proofs.AlikeLemmas.{map-unmarked, outlines-reads, tokens-outlines}
use Rattle.holdings.specs.MarkedParts.{tokens_held}
use Rattle.holdings.specs.Parts.{Parts, all_parts, sealed}
use Rattle.holdings.proofs.LiveLemmas.{docnos-live}
use Rattle.holdings.proofs.SumLemmas.{documents-sealed, tokens-sealed}
use Rattle.repository.proofs.CommitLemmas.{documents-whole, filling-by, tokens-whole}

pub length-alike : (a b : Option Files) (parts : List Marked) → length (snapshots.live a parts) ≡ length (snapshots.live b parts)
length-alike a b parts =
    sym (length-map (snapshots.live a parts) (λ (d : Document). d.docno)) ∙ ap length (docnos-live a parts) ∙ sym (ap length (docnos-live b parts)) ∙ length-map (snapshots.live b parts) (λ (d : Document). d.docno)

tokens-live : (told : Option Files) (m : Marked) → token_count (live_in told m) ≡ sum_by (λ (o : Entry). o.tokens) (unmarked (outlines_of m.source) m.marks)
tokens-live told m =
    tokens-outlines (live_in told m) ∙ ap (λ (os : List Entry). sum_by (λ (o : Entry). o.tokens) os) (map-unmarked entry_of (reads told m.source) m.marks ∙ ap (λ (os : List Entry). unmarked os m.marks) (outlines-reads told m.source))

pub tokens-alike : (a b : Option Files) (parts : List Marked) → token_count (snapshots.live a parts) ≡ token_count (snapshots.live b parts)
tokens-alike a b [] = refl
tokens-alike a b (m ∷ ms) =
    let tokens : Document → ℕ = λ d. length d.tokens in
    let here : token_count (live_in a m) ≡ token_count (live_in b m) = tokens-live a m ∙ sym (tokens-live b m) in
    let rest = tokens-alike a b ms in
    let left = sum_by-append tokens (live_in a m) (snapshots.live a ms) in
    let right = sum_by-append tokens (live_in b m) (snapshots.live b ms) in
    omega (arith, here, rest, left, right)

-- ---- what is held is held in the closed parts, once the one that was being filled is closed

none-filling : (p : Parts) → (sealed p).filling ≡ []
none-filling p = filling-by p p.filling refl

pub documents-closed : (p : Parts) → documents_held (sealed p).closed ≡ documents_held (all_parts p)
documents-closed p = sym (documents-whole (sealed p) (none-filling p)) ∙ documents-sealed p

pub tokens-closed : (p : Parts) → tokens_held (sealed p).closed ≡ tokens_held (all_parts p)
tokens-closed p = sym (tokens-whole (sealed p) (none-filling p)) ∙ tokens-sealed p
