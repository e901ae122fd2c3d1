-- the parts of the segment of documents are read as the documents' parts
use Rattle.std.proofs.Common.{◌≡◌, ◌<◌, ◌≤◌, ℕ, suc, ◌+◌, ◌^◌, List, [], ◌∷◌, ◌++◌, length, map, nat_le, refl, sym, subst, arith}
use Rattle.std.specs.Prelude.{◌==◌}
use Rattle.std.specs.BTreeSet.{insert_key}
use Rattle.std.specs.Cmp.Lexicographic.{slice_cmp}
use Rattle.std.specs.Ordering.{match_ordering, nat_cmp}
use Rattle.std.specs.declared.cmp.Ordering.{Ordering}
use Rattle.std.specs.declared.cmp.Ordering.TheVariants.{Less, Equal, Greater}
use Rattle.std.proofs.lemmas.Bool.{and_from, eq-eqb, le-leb}
use Rattle.std.proofs.lemmas.List.{length-append}
use Rattle.std.proofs.lemmas.List.Sums.{sum_by-cons}
use Rattle.ri_base.specs.Collection.{token_count}
use Rattle.ri_base.specs.Documents.{Document}
use Rattle.ri_base.specs.Places.{postings_of}
use Rattle.ri_base.specs.Vocabulary.{vocabulary_of, with_terms}
use Rattle.ri_base.specs.declared.limits.TheConstants.{MAX_HELD_TOKENS, MAX_PART_DOCS, MAX_PART_NAMES}
use Rattle.ri_base.specs.declared.places.Place.{Place}
use Rattle.seg_codec.specs.Blocks.{tokens_of}
use Rattle.seg_codec.specs.Documents.{names_in_order}
use Rattle.seg_codec.specs.Fits.{FitBlock, FitDictionary, FitDocuments, FitsHeader}
use Rattle.seg_codec.specs.Part.{IsPart}
use Rattle.seg_codec.specs.Segment.{all_blocks, block_entry_of, blocks_at, cut, dictionary_at, entry_of, first, header_of, id_of, index, range_of, segment}
use Rattle.seg_codec.specs.Spelling.{dictionary_bytes, documents_bytes, header_bytes}
use Rattle.seg_codec.proofs.BlockFits.{block_fits}
use Rattle.seg_codec.proofs.DictionaryFits.{dictionary_fits, dictionary_length}
use Rattle.seg_codec.proofs.DocumentFits.{documents_fit, tokens_small}
use Rattle.seg_codec.proofs.NameLemmas.{names_counted}
use Rattle.seg_codec.proofs.RisingPlaces.{Ranges, cut_ranges, postings_rise}

-- ---- there are no more terms than tokens

inserted_few : (ts : List (List ℕ)) (t : List ℕ) → length (insert_key (slice_cmp nat_cmp) ts t) ≤ suc (length ts)
inserted_few [] t = omega arith
inserted_few (x ∷ ts) t = by (slice_cmp nat_cmp t x) (inserted_few ts t)
  where
    by : (o : Ordering) → length (insert_key (slice_cmp nat_cmp) ts t) ≤ suc (length ts) → length (match_ordering o (t ∷ x ∷ ts) (x ∷ ts) (x ∷ insert_key (slice_cmp nat_cmp) ts t)) ≤ suc (length (x ∷ ts))
    by Less h = omega arith
    by Equal h = omega arith
    by Greater h = omega arith

with_terms_few : (ts terms : List (List ℕ)) → length (with_terms ts terms) ≤ length ts + length terms
with_terms_few [] terms = omega arith
with_terms_few (t ∷ ts) terms = omega (arith, inserted_few (with_terms ts terms) t, with_terms_few ts terms)

pub vocabulary_few : (docs : List Document) → length (vocabulary_of docs) ≤ token_count docs
vocabulary_few [] = omega arith
vocabulary_few (d ∷ docs) = omega (arith, with_terms_few d.tokens (vocabulary_of docs), vocabulary_few docs, sum_by-cons (λ (d : Document). length d.tokens) d docs)

-- ---- the header

pub segment_length : (docs : List Document) → length (segment docs) ≡ (header_of docs).length
unfolding segment
segment_length docs =
    let head : length (header_bytes (header_of docs)) ≡ 64 = refl in
    let docs_part = documents_bytes (map entry_of docs) in
    let dict_part = dictionary_bytes (index (blocks_at docs) (vocabulary_of docs) docs) in
    let blocks_part = all_blocks (vocabulary_of docs) docs in
    omega (arith, head, length-append (header_bytes (header_of docs)) (docs_part ++ (dict_part ++ blocks_part)), length-append docs_part (dict_part ++ blocks_part), length-append dict_part blocks_part, dictionary_length (blocks_at docs) (vocabulary_of docs) docs)

pub header_fits : (docs : List Document) → IsPart docs → length (segment docs) < 2 ^ 64 → FitsHeader (length docs) (length (segment docs)) (header_of docs)
header_fits docs h room =
    let size : ℕ = (header_of docs).length in
    let same : length (segment docs) ≡ size = segment_length docs in
    let few : length docs ≤ 1048576 = h.few in
    let short : token_count docs ≤ 67108864 = h.short in
    let named : length (names_in_order (map entry_of docs)) ≤ 65536 = subst (λ n. n ≤ 65536) (sym (names_counted docs)) h.named in
    let terms = vocabulary_few docs in
    let below : size < 2 ^ 64 = omega arith in
    let middle : blocks_at docs ≤ size = omega arith in
    let front : dictionary_at docs ≤ blocks_at docs = omega arith in
    let head : 64 ≤ dictionary_at docs = omega arith in
    subst (λ n. FitsHeader (length docs) n (header_of docs)) (sym same) (
      ((refl, refl), ((omega arith, refl), (omega arith, and_from (nat_le (length docs) MAX_PART_DOCS) (length docs == length docs) (le-leb (length docs) MAX_PART_DOCS h.few) (eq-eqb (length docs) (length docs) refl)))),
      (
        ((omega arith, le-leb (token_count docs) MAX_HELD_TOKENS h.short), (omega arith, ((omega arith, le-leb _ MAX_PART_NAMES named), refl))),
        (
          (
            ((omega arith, refl), (omega arith, le-leb 64 (dictionary_at docs) head)),
            (((omega arith, le-leb (dictionary_at docs) (blocks_at docs) front), ((below, and_from (nat_le (blocks_at docs) size) (size == size) (le-leb (blocks_at docs) size middle) (eq-eqb size size refl)), refl)), refl),
          ),
          refl,
        ),
      ),
    )

-- ---- the parts

pub parts_fit : (docs : List Document) → IsPart docs → length (segment docs) < 2 ^ 64
    → FitsHeader (length docs) (length (segment docs)) (header_of docs) × (FitDocuments (header_of docs) (map entry_of docs) × FitDictionary (header_of docs) (index (blocks_at docs) (vocabulary_of docs) docs))
parts_fit docs h room =
    let few : length docs ≤ 1048576 = h.few in
    let end : blocks_at docs + length (all_blocks (vocabulary_of docs) docs) < 2 ^ 64 = subst (λ n. n < 2 ^ 64) (segment_length docs) room in
    (header_fits docs h room, (documents_fit docs h, dictionary_fits docs (omega arith) (tokens_small docs h.formed) h.formed end))

-- each block of these ranges keeps what a block keeps
abbrev pub BlocksFit : List Document → List (List Place) → Type 0
BlocksFit docs [] = Unit {0}
BlocksFit docs (g ∷ gs) = FitBlock (map entry_of docs) (first range_of g) (map block_entry_of (cut id_of g)) × BlocksFit docs gs

ranges_fit : (docs : List Document) (low : ℕ) (gs : List (List Place)) → IsPart docs → Ranges (length (map entry_of docs)) (tokens_of (map entry_of docs)) low gs → BlocksFit docs gs
ranges_fit docs low [] h r = tt
ranges_fit docs low (g ∷ gs) h r =
    (block_fits (map entry_of docs) (first range_of g) g (λ i. omega (arith, tokens_small docs h.formed i)) r.1.0.some r.1.0.of r.1.0.rise, ranges_fit docs (first range_of g + 1) gs h r.1.1)

pub blocks_fit : (docs : List Document) (t : List ℕ) → IsPart docs → BlocksFit docs (cut range_of (postings_of t docs))
blocks_fit docs t h = ranges_fit docs 0 (cut range_of (postings_of t docs)) h (cut_ranges (length (map entry_of docs)) (tokens_of (map entry_of docs)) 0 (postings_of t docs) (postings_rise t docs))
