-- the dictionary: one spelling
use Rattle.std.proofs.Common.{◌≡◌, ℕ, ◌^◌, ◌<◌, ◌&&◌, nat_le, true, List, [], ◌++◌, length, Ok, refl, sym, ap, subst, ◌∙◌}
use Rattle.std.specs.Prelude.{◌==◌}
use Rattle.std.specs.List.{flat_map}
use Rattle.std.specs.Int.{w32, w64, to_le_bytes}
use Rattle.ri_base.specs.Text.{is_term}
use Rattle.ri_base.specs.declared.text.TheConstants.{TERM_BYTES}
use Rattle.ri_base.specs.Spelling.{spelled_text}
use Rattle.ri_base.specs.Fields.{term_behind, number, ruled, is_before}
use Rattle.ri_base.specs.Reading.{AllFit, ◌>>=◌, repeat}
use Rattle.seg_codec.specs.Fits.{range_rule, FitsBlockPlace, FitBlockPlaces, length_rule, FitsTermBlocks, FitTerms, FitDictionary}
use Rattle.seg_codec.specs.Dictionary.{Behind, BehindTerm, behind, behind_term, block_place, block_places, term_blocks, terms, end_of_all, dictionary}
use Rattle.seg_codec.specs.Spelling.{spelled_place, spelled_term, dictionary_bytes}
use Rattle.seg_codec.specs.declared.header.Header.{Header}
use Rattle.seg_codec.specs.declared.dictionary.BlockPlace.{BlockPlace}
use Rattle.seg_codec.specs.declared.dictionary.TermBlocks.{TermBlocks}
use Rattle.ri_base.proofs.Codec.{IsCodec, IsBytes, codec_then, codec_as, number_codec, ruled_codec, text_codec, repeat_codec, whole_takes, whole_again, wide32, wide64}

block_place_codec : (docs : ℕ) (s : Behind) → IsCodec (block_place docs s) spelled_place (FitsBlockPlace docs s)
unfolding block_place
block_place_codec docs s =
    codec_then (ruled w32 (range_rule docs s.low)) (to_le_bytes w32) (λ r. (r < 2 ^ 32) × (range_rule docs s.low r ≡ true))
    (λ r bytes. ruled w64 (λ p. p == s.at) bytes >>= λ p. number w32 p.1 >>= λ n. Ok (record { range = r; place = p.0; length = n.0 }, n.1))
    (λ r b. to_le_bytes w64 b.place ++ to_le_bytes w32 b.length)
    (λ r b. ((b.place < 2 ^ 64) × (b.place == s.at ≡ true)) × ((b.length < 2 ^ 32) × (record { range = r; place = b.place; length = b.length } ≡ b)))
    (λ b. b.range)
    (ruled_codec w32 (2 ^ 32) (range_rule docs s.low) wide32)
    (λ r _. codec_then (ruled w64 (λ p. p == s.at)) (to_le_bytes w64) (λ p. (p < 2 ^ 64) × (p == s.at ≡ true))
    (λ p bytes. number w32 bytes >>= λ n. Ok (record { range = r; place = p; length = n.0 }, n.1))
    (λ p b. to_le_bytes w32 b.length)
    (λ p b. (b.length < 2 ^ 32) × (record { range = r; place = p; length = b.length } ≡ b))
    (λ b. b.place)
    (ruled_codec w64 (2 ^ 64) (λ p. p == s.at) wide64)
    (λ p _. codec_as (number w32) (to_le_bytes w32) (λ n. n < 2 ^ 32) (λ n. record { range = r; place = p; length = n }) (λ b. b.length) (number_codec w32 (2 ^ 32) wide32) (λ n h. refl))
    (λ p b _ h. sym (ap (λ (x : BlockPlace). x.place) h.1)))
    (λ r b _ h. sym (ap (λ (x : BlockPlace). x.range) h.1.1))

abbrev pub spelled_places : List BlockPlace → List ℕ
spelled_places bs = to_le_bytes w32 (length bs) ++ flat_map spelled_place bs

block_places_codec : (docs at : ℕ) → IsCodec (block_places docs at) spelled_places (FitBlockPlaces docs at)
unfolding block_places
block_places_codec docs at =
    codec_then (ruled w32 (λ n. nat_le 1 n)) (to_le_bytes w32) (λ n. (n < 2 ^ 32) × (nat_le 1 n ≡ true))
    (λ n bytes. repeat (block_place docs) (λ _ b. behind b) n (record { low = 0; at = at }) bytes)
    (λ n bs. flat_map spelled_place bs)
    (λ n bs. (length bs ≡ n) × AllFit (FitsBlockPlace docs) (λ _ b. behind b) (record { low = 0; at = at }) bs)
    (λ bs. length bs)
    (ruled_codec w32 (2 ^ 32) (λ n. nat_le 1 n) wide32)
    (λ n _. repeat_codec (block_place docs) spelled_place (FitsBlockPlace docs) (λ _ b. behind b) (block_place_codec docs) n (record { low = 0; at = at }))
    (λ n bs _ h. h.0)

term_blocks_codec : (docs : ℕ) (s : BehindTerm) → IsCodec (term_blocks docs s) spelled_term (FitsTermBlocks docs s)
unfolding term_blocks
term_blocks_codec docs s =
    codec_then (term_behind s.before) spelled_text (λ t. (length_rule TERM_BYTES (length t) ≡ true) × (is_term t && is_before s.before t ≡ true))
    (λ t bytes. block_places docs s.at bytes >>= λ bs. Ok (record { term = t; blocks = bs.0 }, bs.1))
    (λ t x. spelled_places x.blocks)
    (λ t x. FitBlockPlaces docs s.at x.blocks × (record { term = t; blocks = x.blocks } ≡ x))
    (λ x. x.term)
    (text_codec TERM_BYTES (λ x. is_term x && is_before s.before x))
    (λ t _. codec_as (block_places docs s.at) spelled_places (FitBlockPlaces docs s.at) (λ bs. record { term = t; blocks = bs }) (λ x. x.blocks) (block_places_codec docs s.at) (λ bs h. refl))
    (λ t x _ h. sym (ap (λ (y : TermBlocks). y.term) h.1))

pub dictionary_takes : (h : Header) (bytes : List ℕ) (xs : List TermBlocks) → IsBytes bytes → dictionary h bytes ≡ Ok xs → (bytes ≡ dictionary_bytes xs) × FitDictionary h xs
dictionary_takes h bytes xs small e =
    let w = whole_takes (terms h) (flat_map spelled_term) (FitTerms h) (λ xs. end_of_all h.blocks_at xs == h.length) (λ xs. xs) (repeat_codec (term_blocks h.docs) spelled_term (FitsTermBlocks h.docs) behind_term (term_blocks_codec h.docs) h.terms (record { before = []; at = h.blocks_at })) bytes xs small e in
    (w.spelled ∙ ap (flat_map spelled_term) w.is, (subst (FitTerms h) w.is w.fit, subst (λ (y : List TermBlocks). end_of_all h.blocks_at y == h.length ≡ true) w.is w.ruled))

pub dictionary_again : (h : Header) (xs : List TermBlocks) → FitDictionary h xs → dictionary h (dictionary_bytes xs) ≡ Ok xs
dictionary_again h xs fit =
    whole_again (terms h) (flat_map spelled_term) (FitTerms h) (λ xs. end_of_all h.blocks_at xs == h.length) (λ xs. xs) (repeat_codec (term_blocks h.docs) spelled_term (FitsTermBlocks h.docs) behind_term (term_blocks_codec h.docs) h.terms (record { before = []; at = h.blocks_at })) xs fit.0 fit.1
