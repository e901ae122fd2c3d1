-- the block of rising postings of one range keeps what a block keeps
use Rattle.std.proofs.Common.{◌≡◌, ◌≢◌, ◌<◌, ◌≤◌, ℕ, ◌+◌, ◌-◌, ◌*◌, ◌/◌, ◌^◌, List, [], ◌∷◌, length, map, Bool, true, false, cond, eqb, ◌&&◌, nat_lt, nat_le, refl, sym, ap, subst, ◌∙◌, arith}
use Rattle.std.specs.Int.{w32, to_le_bytes}
use Rattle.std.specs.List.{flat_map}
use Rattle.std.proofs.lemmas.Bool.{and_from, and_parts, eqb-true, eqb-false, leb-true, le-leb, lt-ltb, ltb-true}
use Rattle.std.proofs.lemmas.List.{length-append, length-map}
use Rattle.std.proofs.lemmas.List.Concat.{flat_map-cons}
use Rattle.ri_base.specs.Reading.{AllFit}
use Rattle.ri_base.specs.declared.places.Place.{Place}
use Rattle.seg_codec.specs.Blocks.{tokens_of}
use Rattle.seg_codec.specs.Fits.{FitBlock, FitPlaces, FitsBlockEntry, FitsId, FitsPlace}
use Rattle.seg_codec.specs.Rising.{Rise}
use Rattle.seg_codec.specs.Segment.{ahead, block_entry_of, cut, id_of}
use Rattle.seg_codec.specs.Spelling.{block_bytes, spelled_block_entry}
use Rattle.seg_codec.specs.declared.blocks.BlockEntry.{BlockEntry}
use Rattle.seg_codec.specs.declared.documents.Entry.{Entry}
use Rattle.seg_codec.proofs.CutLemmas.{cut_shape, cut_some}
use Rattle.seg_codec.proofs.RisingPlaces.{AreOf, Rise-lower}

-- ---- the places of a document

fits_place : (tokens low p : ℕ) → tokens < 2 ^ 32 → low ≤ p → p < tokens → FitsPlace tokens low p
fits_place tokens low p small le lt = (omega arith, and_from (nat_le low p) (nat_lt p tokens) (le-leb low p le) (lt-ltb p tokens lt))

places_few : (tokens low : ℕ) (ps : List ℕ) → AllFit (FitsPlace tokens) (λ _ p. p + 1) low ps → low ≤ tokens → length ps + low ≤ tokens
places_few tokens low [] h le = omega arith
places_few tokens low (p ∷ ps) h le =
    let rule = and_parts (nat_le low p) (nat_lt p tokens) h.0.1 in
    let above : low ≤ p = leb-true low p rule.0 in
    let within : p < tokens = ltb-true p tokens rule.1 in
    let next : p + 1 ≤ tokens = omega arith in
    omega (arith, places_few tokens (p + 1) ps h.1 next)

fit_places : (tokens : ℕ) (ps : List ℕ) → tokens < 2 ^ 32 → 0 < length ps → AllFit (FitsPlace tokens) (λ _ p. p + 1) 0 ps → FitPlaces tokens ps
fit_places tokens ps small some all =
    let few : length ps + 0 ≤ tokens = places_few tokens 0 ps all (omega arith) in
    let below : length ps < 2 ^ 32 = omega arith in
    ((below, le-leb 1 (length ps) (omega arith)), (refl, all))

-- ---- the documents of a block

fits_id : (n range low id : ℕ) → id / 64 ≡ range → id < n → low ≤ id → FitsId n range low id
fits_id n range low id of inside le =
    let under : 64 * range ≤ id = omega arith in
    let back : 64 * range + (id - 64 * range) ≡ id = omega arith in
    let near : nat_lt (id - 64 * range) 64 ≡ true = lt-ltb (id - 64 * range) 64 (omega arith) in
    let known : nat_lt (64 * range + (id - 64 * range)) n ≡ true = lt-ltb (64 * range + (id - 64 * range)) n (omega arith) in
    let above : nat_le low (64 * range + (id - 64 * range)) ≡ true = le-leb low (64 * range + (id - 64 * range)) (omega arith) in (
      and_from (nat_lt (id - 64 * range) 64 && nat_lt (64 * range + (id - 64 * range)) n) (nat_le low (64 * range + (id - 64 * range)))
          (and_from (nat_lt (id - 64 * range) 64) (nat_lt (64 * range + (id - 64 * range)) n) near known) above,
      back,
    )

pub id_parts : (n range low id : ℕ) → FitsId n range low id → (low ≤ id) × (id < 64 * range + 64)
id_parts n range low id h =
    let back : 64 * range + (id - 64 * range) ≡ id = h.1 in
    let outer = and_parts (nat_lt (id - 64 * range) 64 && nat_lt (64 * range + (id - 64 * range)) n) (nat_le low (64 * range + (id - 64 * range))) h.0 in
    let inner = and_parts (nat_lt (id - 64 * range) 64) (nat_lt (64 * range + (id - 64 * range)) n) outer.0 in
    let near : id - 64 * range < 64 = ltb-true (id - 64 * range) 64 inner.0 in
    let above : low ≤ 64 * range + (id - 64 * range) = leb-true low (64 * range + (id - 64 * range)) outer.1 in
    (omega arith, omega arith)

one_entry : (es : List Entry) (range low : ℕ) (p : Place) → tokens_of es p.id < 2 ^ 32 → p.id / 64 ≡ range → low ≤ p.id → p.id < length es → p.at < tokens_of es p.id → FitsBlockEntry es range low (record { id = p.id; positions = p.at ∷ [] })
one_entry es range low p small of le inside within =
    let all : AllFit (FitsPlace (tokens_of es p.id)) (λ _ q. q + 1) 0 (p.at ∷ []) = (fits_place (tokens_of es p.id) 0 p.at small (omega arith) within, tt) in
    (fits_id (length es) range low p.id of inside le, (fit_places (tokens_of es p.id) (p.at ∷ []) small (omega arith) all, refl))

-- the entries of rising postings of one range
pub entries_fit : (es : List Entry) (range low : ℕ) (ps : List Place) → ((i : ℕ) → tokens_of es i < 2 ^ 32) → AreOf range ps → Rise (length es) (tokens_of es) low 0 ps
    → AllFit (FitsBlockEntry es range) (λ _ e. e.id + 1) low (map block_entry_of (cut id_of ps))
unfolding cut
entries_fit es range low [] small of up = tt
entries_fit es range low (x ∷ []) small of up = (one_entry es range low x (small x.id) of.0 up.0.low up.0.inside up.0.within, tt)
entries_fit es range low (x ∷ y ∷ ys) small of up =
    let s = cut_shape id_of y ys in
    subst (λ gs. AllFit (FitsBlockEntry es range) (λ _ e. e.id + 1) low (map block_entry_of (ahead id_of x gs))) (sym s.2)
    (by s.0 s.1 (eqb y.id x.id) refl up.1.0.low
    (subst (λ gs. AllFit (FitsBlockEntry es range) (λ _ e. e.id + 1) x.id (map block_entry_of gs)) s.2 (entries_fit es range x.id (y ∷ ys) small of.1 (Rise-lower (length es) (tokens_of es) x.id (x.at + 1) x.id 0 (y ∷ ys) (omega arith) (λ q. omega arith) up.1)))
    (λ after. subst (λ gs. AllFit (FitsBlockEntry es range) (λ _ e. e.id + 1) (x.id + 1) (map block_entry_of gs)) s.2 (entries_fit es range (x.id + 1) (y ∷ ys) small of.1 (record { low = after; from = λ q. omega arith; inside = up.1.0.inside; within = up.1.0.within }, up.1.1))))
  where
    by : (front : List Place) (others : List (List Place)) (b : Bool) → eqb y.id x.id ≡ b → x.id ≤ y.id
        → AllFit (FitsBlockEntry es range) (λ _ e. e.id + 1) x.id (map block_entry_of ((y ∷ front) ∷ others))
        → (x.id + 1 ≤ y.id → AllFit (FitsBlockEntry es range) (λ _ e. e.id + 1) (x.id + 1) (map block_entry_of ((y ∷ front) ∷ others)))
        → AllFit (FitsBlockEntry es range) (λ _ e. e.id + 1) low (map block_entry_of (cond b ((x ∷ y ∷ front) ∷ others) ((x ∷ []) ∷ (y ∷ front) ∷ others)))
    by front others true e le joined apart =
        let same : y.id ≡ x.id = eqb-true _ _ e in
        let ats : List ℕ = map (λ (p : Place). p.at) front in
        let next : x.at + 1 ≤ y.at = up.1.0.from same in
        let tail : AllFit (FitsPlace (tokens_of es x.id)) (λ _ q. q + 1) (y.at + 1) ats = subst (λ k. AllFit (FitsPlace (tokens_of es k)) (λ _ q. q + 1) (y.at + 1) ats) same joined.0.1.0.1.1.1 in
        let below : y.at < tokens_of es x.id = subst (λ k. y.at < tokens_of es k) same up.1.0.within in
        let all : AllFit (FitsPlace (tokens_of es x.id)) (λ _ q. q + 1) 0 (x.at ∷ y.at ∷ ats) =
        (fits_place (tokens_of es x.id) 0 x.at (small x.id) (omega arith) up.0.within, (fits_place (tokens_of es x.id) (x.at + 1) y.at (small x.id) next below, tail)) in (
          (fits_id (length es) range low x.id of.0 up.0.inside up.0.low, (fit_places (tokens_of es x.id) (x.at ∷ y.at ∷ ats) (small x.id) (omega arith) all, refl)),
          subst (λ k. AllFit (FitsBlockEntry es range) (λ _ e. e.id + 1) (k + 1) (map block_entry_of others)) same joined.1,
        )
    by front others false e le joined apart =
        let differ : y.id ≢ x.id = eqb-false _ _ e in
        (one_entry es range low x (small x.id) of.0 up.0.low up.0.inside up.0.within, apart (omega arith))

entries_few : (es : List Entry) (range low : ℕ) (bs : List BlockEntry) → AllFit (FitsBlockEntry es range) (λ _ e. e.id + 1) low bs → low ≤ 64 * range + 64 → length bs + low ≤ 64 * range + 64
entries_few es range low [] h le = omega arith
entries_few es range low (b ∷ bs) h le =
    let id = id_parts (length es) range low b.id h.0.0 in
    let next : b.id + 1 ≤ 64 * range + 64 = omega (arith, id.1) in
    omega (arith, id.0, entries_few es range (b.id + 1) bs h.1 next)

-- they begin with the range's first id at the least
rise_in_range : (n : ℕ) (tokens : ℕ → ℕ) (range : ℕ) (ps : List Place) → AreOf range ps → Rise n tokens 0 0 ps → Rise n tokens (64 * range) 0 ps
rise_in_range n tokens range [] of up = tt
rise_in_range n tokens range (p ∷ ps) of up =
    let is : p.id / 64 ≡ range = of.0 in
    let low : 64 * range ≤ p.id = omega arith in
    (record { low = low; from = λ q. omega arith; inside = up.0.inside; within = up.0.within }, up.1)

pub range_few : (es : List Entry) (range : ℕ) (ps : List Place) → ((i : ℕ) → tokens_of es i < 2 ^ 32) → AreOf range ps → Rise (length es) (tokens_of es) 0 0 ps → length (map block_entry_of (cut id_of ps)) ≤ 64
range_few es range ps small of up =
    let all = entries_fit es range (64 * range) ps small of (rise_in_range (length es) (tokens_of es) range ps of up) in
    omega (arith, entries_few es range (64 * range) (map block_entry_of (cut id_of ps)) all (omega arith))

pub block_fits : (es : List Entry) (range : ℕ) (ps : List Place) → ((i : ℕ) → tokens_of es i < 2 ^ 32) → 0 < length ps → AreOf range ps → Rise (length es) (tokens_of es) 0 0 ps → FitBlock es range (map block_entry_of (cut id_of ps))
block_fits es range ps small some of up =
    let bs = map block_entry_of (cut id_of ps) in
    let count : length bs ≡ length (cut id_of ps) = length-map (cut id_of ps) block_entry_of in
    let one : 1 ≤ length bs = omega (arith, cut_some id_of ps some) in
    let few : length bs ≤ 64 = range_few es range ps small of up in
    (and_from (nat_le 1 (length bs)) (nat_le (length bs) 64) (le-leb 1 (length bs) one) (le-leb (length bs) 64 few), (refl, entries_fit es range 0 ps small of up))

-- ---- how long it is

numbers_length : (ps : List ℕ) → length (flat_map (to_le_bytes w32) ps) ≡ 4 * length ps
numbers_length [] = refl
numbers_length (p ∷ ps) =
    let four : length (to_le_bytes w32 p) ≡ 4 = refl in
    let step = length-append (to_le_bytes w32 p) (flat_map (to_le_bytes w32) ps) in
    ap length (flat_map-cons (to_le_bytes w32) p ps) ∙ omega (arith, four, step, numbers_length ps)

entry_length : (range : ℕ) (e : BlockEntry) → length (spelled_block_entry range e) ≡ 5 + 4 * length e.positions
entry_length range e =
    let four : length (to_le_bytes w32 (length e.positions)) ≡ 4 = refl in
    let step = length-append (to_le_bytes w32 (length e.positions)) (flat_map (to_le_bytes w32) e.positions) in
    omega (arith, four, step, numbers_length e.positions)

entries_length : (es : List Entry) (range low : ℕ) (bs : List BlockEntry) → ((i : ℕ) → tokens_of es i ≤ 1048576) → AllFit (FitsBlockEntry es range) (λ _ e. e.id + 1) low bs → length (flat_map (spelled_block_entry range) bs) ≤ 4194309 * length bs
entries_length es range low [] small h = omega arith
entries_length es range low (b ∷ bs) small h =
    let few : length b.positions + 0 ≤ tokens_of es b.id = places_few (tokens_of es b.id) 0 b.positions h.0.1.0.1.1 (omega arith) in
    let most = small b.id in
    let step = length-append (spelled_block_entry range b) (flat_map (spelled_block_entry range) bs) in
    let cons = ap length (flat_map-cons (spelled_block_entry range) b bs) in
    omega (arith, few, most, step, cons, entry_length range b, entries_length es range (b.id + 1) bs small h.1)

-- a block's length fits its field
pub block_short : (es : List Entry) (range : ℕ) (ps : List Place) → ((i : ℕ) → tokens_of es i ≤ 1048576) → AreOf range ps → Rise (length es) (tokens_of es) 0 0 ps → length (block_bytes range (map block_entry_of (cut id_of ps))) < 2 ^ 32
block_short es range ps small of up =
    let below : (i : ℕ) → tokens_of es i < 2 ^ 32 = λ i. omega (arith, small i) in
    let few = range_few es range ps below of up in
    omega (arith, few, entries_length es range 0 (map block_entry_of (cut id_of ps)) small (entries_fit es range 0 ps below of up))
