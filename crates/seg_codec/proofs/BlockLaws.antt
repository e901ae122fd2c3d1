-- blocks: one spelling
use Rattle.std.proofs.Common.{◌≡◌, ℕ, ◌+◌, ◌-◌, ◌*◌, ◌^◌, ◌<◌, ◌&&◌, nat_le, true, List, [], ◌∷◌, ◌++◌, length, Ok, refl, sym, ap, subst, ◌∙◌, arith}
use Rattle.std.specs.List.{flat_map}
use Rattle.std.specs.Int.{w32, to_le_bytes}
use Rattle.seg_codec.specs.Fits.{place_rule, FitsPlace, FitPlaces, FitsId, FitsBlockEntry, FitBlock}
use Rattle.ri_base.specs.Fields.{number_between, rising_numbers, ruled, ruled_byte}
use Rattle.ri_base.specs.Reading.{AllFit, ◌>>=◌, repeat}
use Rattle.seg_codec.specs.Blocks.{is_local, tokens_of, places, document_id, block_entry, block_entries, block}
use Rattle.seg_codec.specs.Spelling.{spelled_block_entry, block_bytes}
use Rattle.seg_codec.specs.declared.documents.Entry.{Entry}
use Rattle.seg_codec.specs.declared.blocks.BlockEntry.{BlockEntry}
use Rattle.ri_base.proofs.Codec.{IsCodec, IsBytes, codec_then, codec_as, ruled_codec, ruled_byte_codec, repeat_codec, whole_takes, whole_again, wide32}

abbrev pub spelled_places : List ℕ → List ℕ
spelled_places ps = to_le_bytes w32 (length ps) ++ flat_map (to_le_bytes w32) ps

pub places_codec : (tokens : ℕ) → IsCodec (places tokens) spelled_places (FitPlaces tokens)
unfolding places
places_codec tokens =
    codec_then (ruled w32 (λ n. nat_le 1 n)) (to_le_bytes w32) (λ n. (n < 2 ^ 32) × (nat_le 1 n ≡ true))
    (λ n bytes. rising_numbers tokens n bytes)
    (λ n ps. flat_map (to_le_bytes w32) ps)
    (λ n ps. (length ps ≡ n) × AllFit (FitsPlace tokens) (λ _ p. p + 1) 0 ps)
    (λ ps. length ps)
    (ruled_codec w32 (2 ^ 32) (λ n. nat_le 1 n) wide32)
    (λ n _. repeat_codec (number_between tokens) (to_le_bytes w32) (FitsPlace tokens) (λ _ p. p + 1) (λ low. ruled_codec w32 (2 ^ 32) (place_rule tokens low) wide32) n 0)
    (λ n ps _ h. h.0)

id_codec : (docs range low : ℕ) → IsCodec (document_id docs range low) (λ id. (id - 64 * range) ∷ []) (FitsId docs range low)
unfolding document_id
id_codec docs range low =
    codec_as (ruled_byte (is_local docs range low)) (λ b. b ∷ []) (λ b. is_local docs range low b ≡ true) (λ i. 64 * range + i) (λ id. id - 64 * range) (ruled_byte_codec (is_local docs range low)) (λ i h. omega arith)

pub block_entry_codec : (docs : List Entry) (range low : ℕ) → IsCodec (block_entry docs range low) (spelled_block_entry range) (FitsBlockEntry docs range low)
unfolding block_entry
block_entry_codec docs range low =
    codec_then (document_id (length docs) range low) (λ id. (id - 64 * range) ∷ []) (FitsId (length docs) range low)
    (λ i bytes. places (tokens_of docs i) bytes >>= λ ps. Ok (record { id = i; positions = ps.0 }, ps.1))
    (λ i e. spelled_places e.positions)
    (λ i e. FitPlaces (tokens_of docs i) e.positions × (record { id = i; positions = e.positions } ≡ e))
    (λ e. e.id)
    (id_codec (length docs) range low)
    (λ i _. codec_as (places (tokens_of docs i)) spelled_places (FitPlaces (tokens_of docs i)) (λ ps. record { id = i; positions = ps }) (λ e. e.positions) (places_codec (tokens_of docs i)) (λ ps h. refl))
    (λ i e _ h. sym (ap (λ (x : BlockEntry). x.id) h.1))

block_codec : (docs : List Entry) (range : ℕ) → IsCodec (block_entries docs range) (block_bytes range) (FitBlock docs range)
unfolding block_entries
block_codec docs range =
    codec_then (ruled_byte (λ n. nat_le 1 n && nat_le n 64)) (λ b. b ∷ []) (λ n. nat_le 1 n && nat_le n 64 ≡ true)
    (λ n bytes. repeat (block_entry docs range) (λ _ e. e.id + 1) n 0 bytes)
    (λ n es. flat_map (spelled_block_entry range) es)
    (λ n es. (length es ≡ n) × AllFit (FitsBlockEntry docs range) (λ _ e. e.id + 1) 0 es)
    (λ es. length es)
    (ruled_byte_codec (λ n. nat_le 1 n && nat_le n 64))
    (λ n _. repeat_codec (block_entry docs range) (spelled_block_entry range) (FitsBlockEntry docs range) (λ _ e. e.id + 1) (block_entry_codec docs range) n 0)
    (λ n es _ h. h.0)

pub block_takes : (docs : List Entry) (range : ℕ) (bytes : List ℕ) (es : List BlockEntry) → IsBytes bytes → block docs range bytes ≡ Ok es → (bytes ≡ block_bytes range es) × FitBlock docs range es
block_takes docs range bytes es small e =
    let w = whole_takes (block_entries docs range) (block_bytes range) (FitBlock docs range) (λ _. true) (λ x. x) (block_codec docs range) bytes es small e in
    (w.spelled ∙ ap (block_bytes range) w.is, subst (FitBlock docs range) w.is w.fit)

pub block_again : (docs : List Entry) (range : ℕ) (es : List BlockEntry) → FitBlock docs range es → block docs range (block_bytes range es) ≡ Ok es
block_again docs range es fit = whole_again (block_entries docs range) (block_bytes range) (FitBlock docs range) (λ _. true) (λ x. x) (block_codec docs range) es fit refl
