-- the header: one spelling
use Rattle.std.proofs.Common.{◌≡◌, ℕ, ◌^◌, ◌<◌, ◌&&◌, nat_le, true, List, ◌++◌, length, Ok, refl, sym, ap, subst, ◌∙◌}
use Rattle.std.specs.Prelude.{◌==◌}
use Rattle.std.specs.Bool.{nat_eq}
use Rattle.std.specs.Cmp.Lexicographic.{pointwise, same_text}
use Rattle.std.specs.Int.{w32, w64, to_le_bytes}
use Rattle.std.proofs.lemmas.Bool.{eqb-true, and_parts}
use Rattle.ri_base.specs.declared.limits.TheConstants.{MAX_HELD_TOKENS, MAX_PART_DOCS, MAX_PART_NAMES}
use Rattle.ri_base.specs.Fields.{number, ruled}
use Rattle.ri_base.specs.Reading.{◌>>=◌}
use Rattle.seg_codec.specs.Fits.{FitsDocs, Counts, FitCounts, FitsDictionaryPlace, FitsBlocksPlace, FitHeaderPlaces, made, counts_of, places_of, FitsDocsCount, FitsHeader}
use Rattle.seg_codec.specs.Headers.{magic, marked, docs_count, counts, dictionary_place, blocks_place, places, header_fields, header}
use Rattle.seg_codec.specs.Spelling.{header_bytes}
use Rattle.seg_codec.specs.declared.header.Header.{Header}
use Rattle.ri_base.proofs.Codec.{IsCodec, IsBytes, codec_then, codec_as, number_codec, ruled_codec, front_codec, whole_takes, whole_again, wide32, wide64}

docs_codec : (docs : ℕ) → IsCodec (docs_count docs) (λ n. magic ++ (to_le_bytes w32 1 ++ to_le_bytes w32 n)) (λ n. ((length magic ≡ 8) × (pointwise nat_eq magic magic ≡ true)) × (((1 < 2 ^ 32) × (1 == 1 ≡ true)) × FitsDocs docs n))
unfolding docs_count
docs_codec docs =
    codec_then marked (λ m. m) (λ m. (length m ≡ 8) × (pointwise nat_eq m magic ≡ true))
    (λ m bytes. ruled w32 (λ n. n == 1) bytes >>= λ v. ruled w32 (λ n. nat_le n MAX_PART_DOCS && (n == docs)) v.1)
    (λ m n. to_le_bytes w32 1 ++ to_le_bytes w32 n)
    (λ m n. ((1 < 2 ^ 32) × (1 == 1 ≡ true)) × FitsDocs docs n)
    (λ n. magic)
    (front_codec 8 (λ m. pointwise nat_eq m magic))
    (λ m _. codec_then (ruled w32 (λ n. n == 1)) (to_le_bytes w32) (λ v. (v < 2 ^ 32) × (v == 1 ≡ true))
    (λ v bytes. ruled w32 (λ n. nat_le n MAX_PART_DOCS && (n == docs)) bytes)
    (λ v n. to_le_bytes w32 n)
    (λ v n. FitsDocs docs n)
    (λ n. 1)
    (ruled_codec w32 (2 ^ 32) (λ n. n == 1) wide32)
    (λ v _. ruled_codec w32 (2 ^ 32) (λ n. nat_le n MAX_PART_DOCS && (n == docs)) wide32)
    (λ v n h _. sym (eqb-true v 1 h.1)))
    (λ m n h _. sym (same_text m magic (sym h.1)))

abbrev pub spelled_counts : Counts → List ℕ
spelled_counts c = to_le_bytes w64 c.0 ++ (to_le_bytes w32 c.1 ++ to_le_bytes w32 c.2)

counts_codec : IsCodec counts spelled_counts FitCounts
unfolding counts
counts_codec =
    codec_then {C = Counts} (ruled w64 (λ n. nat_le n MAX_HELD_TOKENS)) (to_le_bytes w64) (λ n. (n < 2 ^ 64) × (nat_le n MAX_HELD_TOKENS ≡ true))
    (λ tokens bytes. number w32 bytes >>= λ terms. ruled w32 (λ n. nat_le n MAX_PART_NAMES) terms.1 >>= λ names. Ok ((tokens, terms.0, names.0), names.1))
    (λ tokens c. to_le_bytes w32 c.1 ++ to_le_bytes w32 c.2)
    (λ tokens c. (c.1 < 2 ^ 32) × (((c.2 < 2 ^ 32) × (nat_le c.2 MAX_PART_NAMES ≡ true)) × ((tokens, c.1, c.2) ≡ c)))
    (λ c. c.0)
    (ruled_codec w64 (2 ^ 64) (λ n. nat_le n MAX_HELD_TOKENS) wide64)
    (λ tokens _. codec_then {C = Counts} (number w32) (to_le_bytes w32) (λ n. n < 2 ^ 32)
    (λ terms bytes. ruled w32 (λ n. nat_le n MAX_PART_NAMES) bytes >>= λ names. Ok ((tokens, terms, names.0), names.1))
    (λ terms c. to_le_bytes w32 c.2)
    (λ terms c. ((c.2 < 2 ^ 32) × (nat_le c.2 MAX_PART_NAMES ≡ true)) × ((tokens, terms, c.2) ≡ c))
    (λ c. c.1)
    (number_codec w32 (2 ^ 32) wide32)
    (λ terms _. codec_as (ruled w32 (λ n. nat_le n MAX_PART_NAMES)) (to_le_bytes w32) (λ n. (n < 2 ^ 32) × (nat_le n MAX_PART_NAMES ≡ true)) (λ names. (tokens, terms, names)) (λ c. c.2) (ruled_codec w32 (2 ^ 32) (λ n. nat_le n MAX_PART_NAMES) wide32) (λ n h. refl))
    (λ terms c _ h. sym (ap (λ (x : Counts). x.1) h.1)))
    (λ tokens c _ h. sym (ap (λ (x : Counts). x.0) h.1.1))

dictionary_place_codec : IsCodec dictionary_place (λ d. to_le_bytes w64 64 ++ to_le_bytes w64 d) FitsDictionaryPlace
unfolding dictionary_place
dictionary_place_codec =
    codec_then (ruled w64 (λ n. n == 64)) (to_le_bytes w64) (λ n. (n < 2 ^ 64) × (n == 64 ≡ true))
    (λ x bytes. ruled w64 (λ n. nat_le 64 n) bytes)
    (λ x d. to_le_bytes w64 d)
    (λ x d. (d < 2 ^ 64) × (nat_le 64 d ≡ true))
    (λ d. 64)
    (ruled_codec w64 (2 ^ 64) (λ n. n == 64) wide64)
    (λ x _. ruled_codec w64 (2 ^ 64) (λ n. nat_le 64 n) wide64)
    (λ x d h _. sym (eqb-true x 64 h.1))

blocks_place_codec : (size dictionary : ℕ) → IsCodec (blocks_place size dictionary) (λ b. to_le_bytes w64 b ++ to_le_bytes w64 size) (FitsBlocksPlace size dictionary)
unfolding blocks_place
blocks_place_codec size dictionary =
    codec_then (ruled w64 (λ n. nat_le dictionary n)) (to_le_bytes w64) (λ n. (n < 2 ^ 64) × (nat_le dictionary n ≡ true))
    (λ x bytes. ruled w64 (λ n. nat_le x n && (n == size)) bytes >>= λ end. Ok (x, end.1))
    (λ x b. to_le_bytes w64 size)
    (λ x b. ((size < 2 ^ 64) × (nat_le x size && (size == size) ≡ true)) × (x ≡ b))
    (λ b. b)
    (ruled_codec w64 (2 ^ 64) (λ n. nat_le dictionary n) wide64)
    (λ x _. codec_as (ruled w64 (λ n. nat_le x n && (n == size))) (to_le_bytes w64) (λ n. (n < 2 ^ 64) × (nat_le x n && (n == size) ≡ true)) (λ n. x) (λ b. size) (ruled_codec w64 (2 ^ 64) (λ n. nat_le x n && (n == size)) wide64)
    (λ n h. sym (eqb-true n size (and_parts (nat_le x n) (n == size) h.1).1)))
    (λ x b _ h. sym h.1)

abbrev pub spelled_header_places : ℕ → ℕ × ℕ → List ℕ
spelled_header_places size p = (to_le_bytes w64 64 ++ to_le_bytes w64 p.0) ++ (to_le_bytes w64 p.1 ++ to_le_bytes w64 size)

places_codec : (size : ℕ) → IsCodec (places size) (spelled_header_places size) (FitHeaderPlaces size)
unfolding places
places_codec size =
    codec_then {C = ℕ × ℕ} dictionary_place (λ d. to_le_bytes w64 64 ++ to_le_bytes w64 d) FitsDictionaryPlace
    (λ d bytes. blocks_place size d bytes >>= λ b. Ok ((d, b.0), b.1))
    (λ d p. to_le_bytes w64 p.1 ++ to_le_bytes w64 size)
    (λ d p. FitsBlocksPlace size d p.1 × ((d, p.1) ≡ p))
    (λ p. p.0)
    dictionary_place_codec
    (λ d _. codec_as (blocks_place size d) (λ b. to_le_bytes w64 b ++ to_le_bytes w64 size) (FitsBlocksPlace size d) (λ b. (d, b)) (λ p. p.1) (blocks_place_codec size d) (λ b h. refl))
    (λ d p _ h. sym (ap (λ (x : ℕ × ℕ). x.0) h.1))

abbrev pub spelled_header : ℕ → Header → List ℕ
spelled_header size h = (magic ++ (to_le_bytes w32 1 ++ to_le_bytes w32 h.docs)) ++ (spelled_counts (counts_of h) ++ spelled_header_places size (places_of h))

header_codec : (docs size : ℕ) → IsCodec (header_fields docs size) (spelled_header size) (FitsHeader docs size)
unfolding header_fields
header_codec docs size =
    codec_then (docs_count docs) (λ n. magic ++ (to_le_bytes w32 1 ++ to_le_bytes w32 n)) (FitsDocsCount docs)
    (λ n bytes. counts bytes >>= λ c. places size c.1 >>= λ p. Ok (made size n c.0 p.0, p.1))
    (λ n h. spelled_counts (counts_of h) ++ spelled_header_places size (places_of h))
    (λ n h. FitCounts (counts_of h) × (FitHeaderPlaces size (places_of h) × (made size n (counts_of h) (places_of h) ≡ h)))
    (λ h. h.docs)
    (docs_codec docs)
    (λ n _. codec_then counts spelled_counts FitCounts
    (λ c bytes. places size bytes >>= λ p. Ok (made size n c p.0, p.1))
    (λ c h. spelled_header_places size (places_of h))
    (λ c h. FitHeaderPlaces size (places_of h) × (made size n c (places_of h) ≡ h))
    counts_of
    counts_codec
    (λ c _. codec_as (places size) (spelled_header_places size) (FitHeaderPlaces size) (made size n c) places_of (places_codec size) (λ p h. refl))
    (λ c h _ f. sym (ap counts_of f.1)))
    (λ n h _ f. sym (ap (λ (x : Header). x.docs) f.1.1))

spelled_same : (docs size : ℕ) (h : Header) → FitsHeader docs size h → spelled_header size h ≡ header_bytes h
spelled_same docs size h fit =
    let rest : spelled_header size h ≡ header_bytes (made size h.docs (counts_of h) (places_of h)) = refl in
    rest ∙ ap header_bytes fit.1.1.1

pub header_takes : (docs size : ℕ) (bytes : List ℕ) (h : Header) → IsBytes bytes → header docs size bytes ≡ Ok h → (bytes ≡ header_bytes h) × FitsHeader docs size h
header_takes docs size bytes h small e =
    let w = whole_takes (header_fields docs size) (spelled_header size) (FitsHeader docs size) (λ _. true) (λ h. h) (header_codec docs size) bytes h small e in
    let fit : FitsHeader docs size h = subst (FitsHeader docs size) w.is w.fit in
    let same : spelled_header size h ≡ header_bytes h = spelled_same docs size h fit in
    (w.spelled ∙ ap (spelled_header size) w.is ∙ same, fit)

pub header_again : (docs size : ℕ) (h : Header) → FitsHeader docs size h → header docs size (header_bytes h) ≡ Ok h
header_again docs size h fit =
    ap (header docs size) (sym (spelled_same docs size h fit))
    ∙ whole_again (header_fields docs size) (spelled_header size) (FitsHeader docs size) (λ _. true) (λ h. h) (header_codec docs size) h fit refl
