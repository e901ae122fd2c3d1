-- the dictionary of documents keeps what a dictionary keeps
use Rattle.std.proofs.Common.{◌≡◌, ◌<◌, ◌≤◌, ℕ, zero, suc, ◌+◌, ◌*◌, ◌/◌, ◌^◌, List, [], ◌∷◌, ◌++◌, length, get_or, map, Bool, true, false, cond, nat_lt, nat_le, refl, sym, ap, subst, ◌∙◌, inl, inr, arith}
use Rattle.std.specs.Cmp.Lexicographic.{slice_cmp}
use Rattle.std.specs.Int.{w32, to_le_bytes}
use Rattle.std.specs.List.{All, AllByRecursion, AllPairs, flat_map}
use Rattle.std.specs.List.Sorted.{IsStrictlySortedBy}
use Rattle.std.specs.Ordering.{nat_cmp}
use Rattle.std.specs.Str.{bytes_eq}
use Rattle.std.specs.declared.cmp.Ordering.TheVariants.{Less}
use Rattle.std.proofs.lemmas.Bool.{and_from, eq-eqb, le-leb, lt-ltb}
use Rattle.std.proofs.lemmas.Cmp.{nat_list_cmp_total}
use Rattle.std.proofs.lemmas.List.{length-append, length-map}
use Rattle.std.proofs.lemmas.List.Concat.{flat_map-cons}
use Rattle.std.proofs.lemmas.List.Elements.{All-contains, All-head, All-tail, All-weaker, recursion_from_All}
use Rattle.std.proofs.lemmas.List.Sums.{sum_by-cons}
use Rattle.std.proofs.lemmas.Map.Keys.{sorted_from_all_adjacent}
use Rattle.ri_base.specs.Fields.{is_before}
use Rattle.ri_base.specs.Reading.{AllFit}
use Rattle.ri_base.proofs.Order.{before_from_less, same_itself}
use Rattle.ri_base.specs.Documents.{Document}
use Rattle.ri_base.specs.Places.{places, places_from, postings_from, postings_of}
use Rattle.ri_base.specs.Text.{is_term}
use Rattle.ri_base.specs.Vocabulary.{IsTermBefore, Occurs, vocabulary_of}
use Rattle.ri_base.specs.declared.places.Place.{Place}
use Rattle.ri_base.proofs.VocabularyLemmas.{IsVocabulary-vocabulary_of}
use Rattle.seg_codec.specs.Blocks.{tokens_of}
use Rattle.seg_codec.specs.Dictionary.{behind, behind_term, end_of, end_of_all}
use Rattle.seg_codec.specs.Fits.{FitDictionary, FitsBlockPlace, FitsTermBlocks, range_rule}
use Rattle.seg_codec.specs.Part.{IsFormed}
use Rattle.seg_codec.specs.Segment.{all_blocks, block_of, blocks_at, blocks_of, cut, dictionary_size, entry_of, header_of, index, placed, range_of, term_blocks_of, term_size}
use Rattle.seg_codec.specs.Spelling.{dictionary_bytes, spelled_place, spelled_term}
use Rattle.seg_codec.specs.declared.dictionary.BlockPlace.{BlockPlace}
use Rattle.seg_codec.specs.declared.dictionary.TermBlocks.{TermBlocks}
use Rattle.seg_codec.specs.declared.documents.Entry.{Entry}
use Rattle.seg_codec.proofs.Appends.{length-placed}
use Rattle.seg_codec.proofs.BlockFits.{block_short}
use Rattle.seg_codec.proofs.CutLemmas.{cut_some}
use Rattle.seg_codec.proofs.RisingPlaces.{Ranges, cut_ranges, postings_rise, ranges_few}

-- ---- the blocks of a term

placed_fit : (es : List Entry) (low at : ℕ) (gs : List (List Place)) → length es < 2 ^ 32 → ((i : ℕ) → tokens_of es i ≤ 1048576) → Ranges (length es) (tokens_of es) low gs
    → at + length (flat_map block_of gs) < 2 ^ 64 → AllFit (FitsBlockPlace (length es)) (λ _ b. behind b) (record { low = low; at = at }) (placed at gs)
placed_fit es low at [] few small h room = tt
placed_fit es low at ([] ∷ gs) few small h room = absurd (omega (arith, h.1.0.some))
placed_fit es low at ((p ∷ ps) ∷ gs) few small h room =
    let r : ℕ = p.id / 64 in
    let inside : p.id < length es = h.1.0.rise.0.inside in
    let known : 64 * r < length es = omega arith in
    let above : low ≤ r = h.0 in
    let short : length (block_of (p ∷ ps)) < 2 ^ 32 = block_short es r (p ∷ ps) small h.1.0.of h.1.0.rise in
    let more : length (flat_map block_of ((p ∷ ps) ∷ gs)) ≡ length (block_of (p ∷ ps)) + length (flat_map block_of gs) = ap length (flat_map-cons block_of (p ∷ ps) gs) ∙ length-append (block_of (p ∷ ps)) (flat_map block_of gs) in
    let left : (at + length (block_of (p ∷ ps))) + length (flat_map block_of gs) < 2 ^ 64 = omega arith in
    let place : at < 2 ^ 64 = omega arith in
    let range : r < 2 ^ 32 = omega arith in
    let rule : range_rule (length es) low r ≡ true = and_from (nat_le low r) (nat_lt (64 * r) (length es)) (le-leb low r above) (lt-ltb (64 * r) (length es) known) in
    (((range, rule), ((place, eq-eqb at at refl), (short, refl))), placed_fit es (r + 1) (at + length (block_of (p ∷ ps))) gs few small h.1.1 left)

end_of-placed : (at : ℕ) (gs : List (List Place)) → end_of at (placed at gs) ≡ at + length (flat_map block_of gs)
end_of-placed at [] = omega arith
end_of-placed at (g ∷ gs) =
    let more : length (flat_map block_of (g ∷ gs)) ≡ length (block_of g) + length (flat_map block_of gs) = ap length (flat_map-cons block_of g gs) ∙ length-append (block_of g) (flat_map block_of gs) in
    end_of-placed (at + length (block_of g)) gs ∙ omega (arith, more)

-- ---- the terms

-- terms of their form that rise, each of which some document has
abbrev pub TermsFit : List Document → List ℕ → List (List ℕ) → Type 0
TermsFit docs before [] = Unit {0}
TermsFit docs before (t ∷ ts) = (is_before before t ≡ true) × ((is_term t ≡ true) × ((0 < length (postings_of t docs)) × TermsFit docs t ts))

all_blocks_more : (t : List ℕ) (ts : List (List ℕ)) (docs : List Document) → length (all_blocks (t ∷ ts) docs) ≡ length (blocks_of (postings_of t docs)) + length (all_blocks ts docs)
all_blocks_more t ts docs =
    ap length (flat_map-cons (λ (t : List ℕ). blocks_of (postings_of t docs)) t ts) ∙ length-append (blocks_of (postings_of t docs)) (all_blocks ts docs)

terms_fit : (docs : List Document) (before : List ℕ) (at : ℕ) (ts : List (List ℕ)) → length docs < 2 ^ 32 → ((i : ℕ) → tokens_of (map entry_of docs) i ≤ 1048576) → TermsFit docs before ts
    → at + length (all_blocks ts docs) < 2 ^ 64 → AllFit (FitsTermBlocks (length docs)) behind_term (record { before = before; at = at }) (index at ts docs)
terms_fit docs before at [] few small h room = tt
terms_fit docs before at (t ∷ ts) few small h room =
    let ps : List Place = postings_of t docs in
    let gs : List (List Place) = cut range_of ps in
    let es : List Entry = map entry_of docs in
    let same : length es ≡ length docs = length-map docs entry_of in
    let more = all_blocks_more t ts docs in
    let left : (at + length (flat_map block_of gs)) + length (all_blocks ts docs) < 2 ^ 64 = omega arith in
    let ranges : Ranges (length es) (tokens_of es) 0 gs = cut_ranges (length es) (tokens_of es) 0 ps (postings_rise t docs) in
    let fit : AllFit (FitsBlockPlace (length docs)) (λ _ b. behind b) (record { low = 0; at = at }) (placed at gs) =
    subst (λ k. AllFit (FitsBlockPlace k) (λ _ b. behind b) (record { low = 0; at = at }) (placed at gs)) same (placed_fit es 0 at gs (omega arith) small ranges (omega arith)) in
    let count = length-placed at gs in
    let most = ranges_few (length es) (tokens_of es) 0 gs ranges (omega arith) in
    let some = cut_some range_of ps h.1.1.0 in
    let counted : (length (placed at gs) < 2 ^ 32) × (nat_le 1 (length (placed at gs)) ≡ true) = (omega arith, le-leb 1 (length (placed at gs)) (omega arith)) in
    let rest = terms_fit docs t (at + length (flat_map block_of gs)) ts few small h.1.1.1 left in (
      ((h.1.0, and_from (is_term t) (is_before before t) h.1.0 h.0), ((counted, (refl, fit)), refl)),
      subst (λ (a : ℕ). AllFit (FitsTermBlocks (length docs)) behind_term (record { before = t; at = a }) (index (at + length (flat_map block_of gs)) ts docs)) (sym (end_of-placed at gs)) rest,
    )

pub length-index : (at : ℕ) (ts : List (List ℕ)) (docs : List Document) → length (index at ts docs) ≡ length ts
length-index at [] docs = refl
length-index at (t ∷ ts) docs = ap suc (length-index (at + length (blocks_of (postings_of t docs))) ts docs)

pub end_of_all-index : (at : ℕ) (ts : List (List ℕ)) (docs : List Document) → end_of_all at (index at ts docs) ≡ at + length (all_blocks ts docs)
end_of_all-index at [] docs = omega arith
end_of_all-index at (t ∷ ts) docs =
    let gs : List (List Place) = cut range_of (postings_of t docs) in
    let more = all_blocks_more t ts docs in
    ap (λ (e : ℕ). end_of_all e (index (at + length (flat_map block_of gs)) ts docs)) (end_of-placed at gs) ∙ end_of_all-index (at + length (flat_map block_of gs)) ts docs ∙ omega (arith, more)

-- ---- its length

places_length : (bs : List BlockPlace) → length (flat_map spelled_place bs) ≡ 16 * length bs
places_length [] = refl
places_length (b ∷ bs) =
    let one : length (spelled_place b) ≡ 16 = refl in
    let step = ap length (flat_map-cons spelled_place b bs) ∙ length-append (spelled_place b) (flat_map spelled_place bs) in
    step ∙ omega (arith, one, places_length bs)

term_length : (x : TermBlocks) → length (spelled_term x) ≡ 5 + length x.term + 16 * length x.blocks
term_length x =
    let four : length (to_le_bytes w32 (length x.blocks)) ≡ 4 = refl in
    let inner = length-append (to_le_bytes w32 (length x.blocks)) (flat_map spelled_place x.blocks) in
    let outer = length-append x.term (to_le_bytes w32 (length x.blocks) ++ flat_map spelled_place x.blocks) in
    omega (arith, four, inner, outer, places_length x.blocks)

pub dictionary_length : (at : ℕ) (ts : List (List ℕ)) (docs : List Document) → length (dictionary_bytes (index at ts docs)) ≡ dictionary_size ts docs
dictionary_length at [] docs = refl
dictionary_length at (t ∷ ts) docs =
    let ps : List Place = postings_of t docs in
    let x : TermBlocks = term_blocks_of at t ps in
    let more : List TermBlocks = index (at + length (blocks_of ps)) ts docs in
    let step = ap length (flat_map-cons spelled_term x more) ∙ length-append (spelled_term x) (flat_map spelled_term more) in
    let count = length-placed at (cut range_of ps) in
    let rest = dictionary_length (at + length (blocks_of ps)) ts docs in
    let size = sum_by-cons (λ (t : List ℕ). term_size t (postings_of t docs)) t ts in
    step ∙ omega (arith, term_length x, count, rest, size)

-- ---- the terms of documents

place_there : (i : ℕ) (t : List ℕ) (words : List (List ℕ)) (k : ℕ) → k < length words → get_or words k t ≡ t → 0 < length (places_from i t words)
place_there i t [] k lt e = absurd (omega arith)
place_there i t (x ∷ words) zero lt e =
    let known : bytes_eq x t ≡ true = subst (λ y. bytes_eq x y ≡ true) e (same_itself x) in
    rw known (omega arith)
place_there i t (x ∷ words) (suc k) lt e = by (bytes_eq x t) (place_there (i + 1) t words k (omega arith) e)
  where
    by : (b : Bool) → 0 < length (places_from (i + 1) t words) → 0 < length (cond b (i ∷ places_from (i + 1) t words) (places_from (i + 1) t words))
    by true some = omega arith
    by false some = some

occurring_is_posted : (i : ℕ) (t : List ℕ) (docs : List Document) → Occurs t docs → 0 < length (postings_from i t docs)
unfolding places
occurring_is_posted i t [] o = elim o [ ]
occurring_is_posted i t (d ∷ docs) (inl c) =
    let some = place_there 0 t d.tokens c.0 c.1 c.2 in
    let own : List Place = map (λ p. record { id = i; at = p }) (places_from 0 t d.tokens) in
    let count : length own ≡ length (places_from 0 t d.tokens) = length-map (places_from 0 t d.tokens) (λ p. record { id = i; at = p }) in
    omega (arith, some, count, length-append own (postings_from (i + 1) t docs))
occurring_is_posted i t (d ∷ docs) (inr o) =
    let some = occurring_is_posted (i + 1) t docs o in
    let own : List Place = map (λ p. record { id = i; at = p }) (places_from 0 t d.tokens) in
    omega (arith, some, length-append own (postings_from (i + 1) t docs))

posted : (t : List ℕ) (docs : List Document) → Occurs t docs → 0 < length (postings_of t docs)
unfolding postings_of
posted t docs o = occurring_is_posted 0 t docs o

occurring_is_term : (t : List ℕ) (docs : List Document) → All IsFormed docs → Occurs t docs → is_term t ≡ true
occurring_is_term t [] h o = elim o [ ]
occurring_is_term t (d ∷ docs) h (inl c) = All-contains (λ t. is_term t ≡ true) d.tokens t (All-head IsFormed d docs h).terms c
occurring_is_term t (d ∷ docs) h (inr o) = occurring_is_term t docs (All-tail IsFormed d docs h) o

rising_terms_fit : (docs : List Document) (before : List ℕ) (ts : List (List ℕ)) → AllByRecursion (λ y. slice_cmp nat_cmp before y ≡ Less) ts → IsStrictlySortedBy (slice_cmp nat_cmp) ts
    → AllByRecursion (λ t. Occurs t docs) ts → All IsFormed docs → TermsFit docs before ts
unfolding IsStrictlySortedBy
rising_terms_fit docs before [] after up known h = tt
rising_terms_fit docs before (t ∷ ts) after up known h =
    (before_from_less before t after.0, (occurring_is_term t docs h known.0, (posted t docs known.0, rising_terms_fit docs t ts up.0 up.1 known.1 h)))

empty_is_before : (t : List ℕ) → is_term t ≡ true → slice_cmp nat_cmp [] t ≡ Less
empty_is_before [] h = absurd cc
empty_is_before (x ∷ t) h = refl

pub vocabulary_rises : (docs : List Document) → IsStrictlySortedBy (slice_cmp nat_cmp) (vocabulary_of docs)
vocabulary_rises docs =
    let up : AllPairs IsTermBefore (vocabulary_of docs) = (IsVocabulary-vocabulary_of docs).rising in
    sorted_from_all_adjacent nat_list_cmp_total (vocabulary_of docs) [] (λ k inside. up k (k + 1) [] (omega arith) inside)

vocabulary_fits : (docs : List Document) → All IsFormed docs → TermsFit docs [] (vocabulary_of docs)
vocabulary_fits docs h =
    let ts = vocabulary_of docs in
    let known : All (λ t. Occurs t docs) ts = (IsVocabulary-vocabulary_of docs).only in
    let first : All (λ t. slice_cmp nat_cmp [] t ≡ Less) ts = All-weaker (λ t. Occurs t docs) (λ t. slice_cmp nat_cmp [] t ≡ Less) (λ t o. empty_is_before t (occurring_is_term t docs h o)) ts known in
    rising_terms_fit docs [] ts (recursion_from_All (λ y. slice_cmp nat_cmp [] y ≡ Less) ts first) (vocabulary_rises docs) (recursion_from_All (λ t. Occurs t docs) ts known) h

-- the dictionary of documents
pub dictionary_fits : (docs : List Document) → length docs < 2 ^ 32 → ((i : ℕ) → tokens_of (map entry_of docs) i ≤ 1048576) → All IsFormed docs
    → blocks_at docs + length (all_blocks (vocabulary_of docs) docs) < 2 ^ 64 → FitDictionary (header_of docs) (index (blocks_at docs) (vocabulary_of docs) docs)
dictionary_fits docs few small h room =
    let ts = vocabulary_of docs in
    ((length-index (blocks_at docs) ts docs, terms_fit docs [] (blocks_at docs) ts few small (vocabulary_fits docs h) room), eq-eqb _ _ (end_of_all-index (blocks_at docs) ts docs))
