-- The block of a term, as a list of documents has it.
use Rattle.std.proofs.Common.{◌≡◌, ◌≢◌, ◌<◌, ◌≤◌, ℕ, zero, suc, ◌+◌, ◌-◌, ◌*◌, ◌/◌, ◌==◌, List, [], ◌∷◌, ◌++◌, length, take, drop, get_or, Bool, true, false, cond, Some, refl, sym, ap, subst, ◌∙◌, arith, length-drop}
use Rattle.std.specs.List.{find}
use Rattle.std.specs.Option.{option_map_or}
use Rattle.std.proofs.lemmas.List.{get_or-take, get_or-drop, length-take}
use Rattle.ri_base.specs.Collection.{document_at, empty_document}
use Rattle.ri_base.specs.Documents.{Document}
use Rattle.ri_base.specs.Places.{places}
use Rattle.seg_codec.specs.declared.blocks.BlockEntry.{BlockEntry}
use Rattle.disk_index.specs.Blocks.{block_of, entries_from, entry_of_places, places_of}

abbrev has : ℕ → BlockEntry → Bool
has id e = e.id == id

-- the entry of another document, or of this one, at the front
places_of-other : (id i : ℕ) (xs : List ℕ) (es : List BlockEntry) → i ≢ id → places_of id (entry_of_places i xs ++ es) ≡ places_of id es
places_of-other id i [] es differ = refl
places_of-other id i (x ∷ xs) es differ =
    let test : (i == id) ≡ false = grind arith in
    ap (λ b. option_map_or (λ (e : BlockEntry). e.positions) (cond b (Some (record { id = i; positions = x ∷ xs })) (find (has id) es)) []) test

places_of-own : (id : ℕ) (xs : List ℕ) (es : List BlockEntry) → places_of id es ≡ [] → places_of id (entry_of_places id xs ++ es) ≡ xs
places_of-own id [] es none = none
places_of-own id (x ∷ xs) es none =
    let test : (id == id) ≡ true = grind arith in
    ap (λ b. option_map_or (λ (e : BlockEntry). e.positions) (cond b (Some (record { id = id; positions = x ∷ xs })) (find (has id) es)) []) test

later : (i id : ℕ) (t : List ℕ) (docs : List Document) → id < i → places_of id (entries_from i t docs) ≡ []
later i id t [] h = refl
later i id t (d ∷ docs) h = places_of-other id i (places t d) (entries_from (i + 1) t docs) (λ e. omega (arith, e)) ∙ later (i + 1) id t docs (omega arith)

at_from : (i n id : ℕ) (t : List ℕ) (docs : List Document) → id ≡ i + n → n < length docs → places_of id (entries_from i t docs) ≡ places t (document_at docs n)
at_from i n id t [] e h = absurd (omega arith)
at_from i zero id t (d ∷ docs) e h =
    let is : i ≡ id = omega arith in
    subst (λ k. places_of id (entry_of_places k (places t d) ++ entries_from (i + 1) t docs) ≡ places t d) (sym is)
    (places_of-own id (places t d) (entries_from (i + 1) t docs) (later (i + 1) id t docs (omega arith)))
at_from i (suc n) id t (d ∷ docs) e h =
    places_of-other id i (places t d) (entries_from (i + 1) t docs) (λ q. omega (arith, q)) ∙ at_from (i + 1) n id t docs (omega arith) (omega arith)

pub document_at-get_or : (docs : List Document) (i : ℕ) → document_at docs i ≡ get_or docs i empty_document
document_at-get_or [] i = refl
document_at-get_or (d ∷ docs) zero = refl
document_at-get_or (d ∷ docs) (suc i) = document_at-get_or docs i

pub document_at-range : (s id : ℕ) (docs : List Document) → s ≤ id → id < s + 64 → document_at (take 64 (drop s docs)) (id - s) ≡ document_at docs id
document_at-range s id docs low high =
    document_at-get_or (take 64 (drop s docs)) (id - s) ∙ get_or-take 64 (drop s docs) (id - s) empty_document (omega arith) ∙ get_or-drop s docs (id - s) empty_document
    ∙ ap (λ k. get_or docs k empty_document) (omega arith) ∙ sym (document_at-get_or docs id)

-- the places that the block of a term has in a document are those of the term there
pub places_of-block : (t : List ℕ) (id : ℕ) (docs : List Document) → id < length docs → places_of id (block_of t (id / 64) docs) ≡ places t (document_at docs id)
unfolding block_of
places_of-block t id docs h =
    let s = 64 * (id / 64) in
    let low : s ≤ id = omega arith in
    let high : id < s + 64 = omega arith in
    let inside : id - s < length (take 64 (drop s docs)) = omega (arith, length-take 64 (drop s docs), length-drop s docs) in
    at_from s (id - s) id t (take 64 (drop s docs)) (omega arith) inside ∙ ap (places t) (document_at-range s id docs low high)
