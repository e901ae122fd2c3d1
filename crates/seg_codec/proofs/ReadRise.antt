-- the postings that are read of a term's blocks rise
use Rattle.std.proofs.Common.{◌≡◌, ◌<◌, ◌≤◌, ℕ, ◌+◌, ◌-◌, ◌*◌, List, [], ◌∷◌, ◌++◌, length, map, ◌&&◌, nat_lt, nat_le, Ok, sym, ap, subst, ◌∙◌, append_assoc, arith}
use Rattle.std.proofs.lemmas.Bool.{and_parts, leb-true, ltb-true}
use Rattle.std.proofs.lemmas.List.Concat.{flat_map-cons}
use Rattle.ri_base.specs.Reading.{AllFit}
use Rattle.ri_base.proofs.Codec.{IsBytes}
use Rattle.ri_base.specs.declared.places.Place.{Place}
use Rattle.seg_codec.specs.Blocks.{block, tokens_of}
use Rattle.seg_codec.specs.Dictionary.{behind}
use Rattle.seg_codec.specs.Fits.{FitsBlockEntry, FitsBlockPlace, FitsId, FitsPlace}
use Rattle.seg_codec.specs.Rising.{Rise}
use Rattle.seg_codec.specs.Whole.{and_then, block_bytes_in, block_in, block_postings, entry_postings, term_postings}
use Rattle.seg_codec.specs.declared.blocks.BlockEntry.{BlockEntry}
use Rattle.seg_codec.specs.declared.dictionary.BlockPlace.{BlockPlace}
use Rattle.seg_codec.specs.declared.documents.Entry.{Entry}
use Rattle.seg_codec.proofs.BlockFits.{id_parts}
use Rattle.seg_codec.proofs.BlockLaws.{block_takes}
use Rattle.seg_codec.proofs.FileLaws.{and_then_ok, between_bytes, in_part_ok, made_is}
use Rattle.seg_codec.proofs.RisingPlaces.{Rise-lower}

positions_rise : (n : ℕ) (tokens : ℕ → ℕ) (id low : ℕ) (ps : List ℕ) (rest : List Place) → id < n → AllFit (FitsPlace (tokens id)) (λ _ p. p + 1) low ps → Rise n tokens (id + 1) 0 rest
    → Rise n tokens id low (map (λ p. record { id = id; at = p }) ps ++ rest)
positions_rise n tokens id low [] rest inside h up = Rise-lower n tokens (id + 1) 0 id low rest (omega arith) (λ q. absurd (omega (arith, q))) up
positions_rise n tokens id low (p ∷ ps) rest inside h up =
    let rule = and_parts (nat_le low p) (nat_lt p (tokens id)) h.0.1 in
    (record { low = omega arith; from = λ q. leb-true low p rule.0; inside = inside; within = ltb-true p (tokens id) rule.1 }, positions_rise n tokens id (p + 1) ps rest inside h.1 up)

id_inside : (n range low id : ℕ) → FitsId n range low id → id < n
id_inside n range low id h =
    let back : 64 * range + (id - 64 * range) ≡ id = h.1 in
    let outer = and_parts (nat_lt (id - 64 * range) 64 && nat_lt (64 * range + (id - 64 * range)) n) (nat_le low (64 * range + (id - 64 * range))) h.0 in
    let inner = and_parts (nat_lt (id - 64 * range) 64) (nat_lt (64 * range + (id - 64 * range)) n) outer.0 in
    let known : 64 * range + (id - 64 * range) < n = ltb-true (64 * range + (id - 64 * range)) n inner.1 in
    omega arith

-- the postings of a document, and behind them those of later ones
entry_rises : (es : List Entry) (range low base : ℕ) (b : BlockEntry) (bs : List BlockEntry) (rest : List Place) → FitsBlockEntry es range low b → base ≤ b.id → Rise (length es) (tokens_of es) (b.id + 1) 0 (block_postings bs ++ rest)
    → Rise (length es) (tokens_of es) base 0 (block_postings (b ∷ bs) ++ rest)
entry_rises es range low base b bs rest h le later =
    let own : Rise (length es) (tokens_of es) b.id 0 (entry_postings b ++ (block_postings bs ++ rest)) =
    positions_rise (length es) (tokens_of es) b.id 0 b.positions (block_postings bs ++ rest) (id_inside (length es) range low b.id h.0) h.1.0.1.1 later in
    let lower : Rise (length es) (tokens_of es) base 0 (entry_postings b ++ (block_postings bs ++ rest)) = Rise-lower (length es) (tokens_of es) b.id 0 base 0 (entry_postings b ++ (block_postings bs ++ rest)) le (λ q. omega arith) own in
    subst (Rise (length es) (tokens_of es) base 0) (sym (ap (λ l. l ++ rest) (flat_map-cons entry_postings b bs) ∙ append_assoc (entry_postings b) (block_postings bs) rest)) lower

block_rises : (es : List Entry) (range low : ℕ) (bs : List BlockEntry) (rest : List Place) → low ≤ 64 * range + 64 → AllFit (FitsBlockEntry es range) (λ _ e. e.id + 1) low bs → Rise (length es) (tokens_of es) (64 * range + 64) 0 rest
    → Rise (length es) (tokens_of es) low 0 (block_postings bs ++ rest)
block_rises es range low [] rest le h up = Rise-lower (length es) (tokens_of es) (64 * range + 64) 0 low 0 rest le (λ q. omega arith) up
block_rises es range low (b ∷ bs) rest le h up =
    let id = id_parts (length es) range low b.id h.0.0 in
    entry_rises es range low low b bs rest h.0 id.0 (block_rises es range (b.id + 1) bs rest (omega (arith, id.1)) h.1 up)

above_range : (n range low id : ℕ) → FitsId n range low id → 64 * range ≤ id
above_range n range low id h =
    let back : 64 * range + (id - 64 * range) ≡ id = h.1 in
    omega arith

block_rises_from : (es : List Entry) (range base : ℕ) (bs : List BlockEntry) (rest : List Place) → base ≤ 64 * range → AllFit (FitsBlockEntry es range) (λ _ e. e.id + 1) 0 bs → Rise (length es) (tokens_of es) (64 * range + 64) 0 rest
    → Rise (length es) (tokens_of es) base 0 (block_postings bs ++ rest)
block_rises_from es range base [] rest le h up = Rise-lower (length es) (tokens_of es) (64 * range + 64) 0 base 0 rest (omega arith) (λ q. omega arith) up
block_rises_from es range base (b ∷ bs) rest le h up =
    let id = id_parts (length es) range 0 b.id h.0.0 in
    entry_rises es range 0 base b bs rest h.0 (omega (arith, above_range (length es) range 0 b.id h.0.0)) (block_rises es range (b.id + 1) bs rest (omega (arith, id.1)) h.1 up)

pub term_rises : (bytes : List ℕ) (es : List Entry) (n low at : ℕ) (bs : List BlockPlace) (ps : List Place) → IsBytes bytes → AllFit (FitsBlockPlace n) (λ _ b. behind b) (record { low = low; at = at }) bs → term_postings bytes es bs ≡ Ok ps
    → Rise (length es) (tokens_of es) (64 * low) 0 ps
unfolding term_postings
term_rises bytes es n low at [] ps small fit e = subst (Rise (length es) (tokens_of es) (64 * low) 0) (made_is [] ps e) tt
term_rises bytes es n low at (b ∷ bs) ps small fit e =
    let a = and_then_ok (block_in bytes es b) (λ x. and_then (term_postings bytes es bs) (λ xs. Ok (block_postings x ++ xs))) ps e in
    let c = and_then_ok (term_postings bytes es bs) (λ xs. Ok (block_postings a.0 ++ xs)) ps a.2 in
    let read = block_takes es b.range (block_bytes_in bytes b) a.0 (between_bytes bytes b.place (b.place + b.length) small) (in_part_ok _ _ (block es b.range (block_bytes_in bytes b)) a.0 a.1) in
    let rest = term_rises bytes es n (b.range + 1) (b.place + b.length) bs c.0 small fit.1 c.1 in
    let up : low ≤ b.range = leb-true low b.range (and_parts (nat_le low b.range) _ fit.0.0.1).0 in
    let moved : 64 * (b.range + 1) ≡ 64 * b.range + 64 = omega arith in
    let all = block_rises_from es b.range (64 * low) a.0 c.0 (omega arith) read.1.1.1 (subst (λ k. Rise (length es) (tokens_of es) k 0 c.0) moved rest) in
    subst (Rise (length es) (tokens_of es) (64 * low) 0) (made_is (block_postings a.0 ++ c.0) ps c.2) all
