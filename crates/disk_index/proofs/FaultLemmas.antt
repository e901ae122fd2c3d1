-- Why the places of a document can't be told.
use Rattle.std.proofs.Common.{◌≡◌, ◌<◌, ◌≤◌, ℕ, zero, suc, ◌+◌, ◌/◌, ◌==◌, List, [], ◌∷◌, length, get_or, Bool, true, false, cond, leb, ltb, Option, Some, None, inl, inr, refl, sym, ap, subst, add-one, arith}
use Rattle.std.specs.List.{All, find}
use Rattle.std.specs.List.Sorted.{IsStrictlyIncreasing}
use Rattle.std.specs.Option.{MatchOption, option_map_or}
use Rattle.std.proofs.lemmas.Bool.{and_parts, eqb-true, leb-true, ltb-true}
use Rattle.std.proofs.lemmas.List.{get_or_default}
use Rattle.std.proofs.lemmas.List.Elements.{All-cons, All-nil}
use Rattle.ri_base.specs.Faults.{IsOutside}
use Rattle.ri_base.specs.declared.seg_fault.FileName.TheVariants.{Segment}
use Rattle.ri_base.specs.declared.seg_fault.PartName.TheVariants as parts
use Rattle.ri_base.specs.declared.seg_fault.SegFault.{SegFault}
use Rattle.ri_base.specs.declared.seg_fault.SegFault.TheVariants.{Malformed, Missing, Store, Memory}
use Rattle.ri_base.specs.Reading.{AllFit}
use Rattle.store_ends.specs.Files.{Files}
use Rattle.seg_codec.specs.Blocks.{tokens_of}
use Rattle.seg_codec.specs.Fits.{FitBlock, FitsBlockEntry, FitsPlace}
use Rattle.seg_codec.specs.declared.blocks.BlockEntry.{BlockEntry}
use Rattle.seg_codec.specs.declared.dictionary.BlockPlace.{BlockPlace}
use Rattle.seg_codec.specs.declared.documents.Entry.{Entry}
use Rattle.disk_index.specs.Blocks.{IsBlockFault, places_of}
use Rattle.disk_index.specs.Cache.{Cached}
use Rattle.disk_index.specs.Faults.{ArePlacesIn, CameFrom, IsPlacesFault, IsTermFault}
use Rattle.disk_index.specs.Kept.{Kept, key_of, place_of}
use Rattle.disk_index.specs.declared.cache.BlockKey.{BlockKey}

-- ---- places that fit

fits-rise : (tokens low : ℕ) (ps : List ℕ) → AllFit (FitsPlace tokens) (λ _ p. p + 1) low ps → IsStrictlyIncreasing ps
fits-rise tokens low [] h k inside = absurd (omega (arith, inside))
fits-rise tokens low (x ∷ []) h k inside = absurd (omega (arith, inside))
fits-rise tokens low (x ∷ y ∷ ps) h zero inside =
    let next : x + 1 ≤ y = leb-true (x + 1) y (and_parts (leb (x + 1) y) (ltb y tokens) h.1.0.1).0 in
    omega (arith, next)
fits-rise tokens low (x ∷ y ∷ ps) h (suc k) inside =
    let rest : get_or (y ∷ ps) k 0 < get_or (y ∷ ps) (suc k) 0 = rw add-one at (fits-rise tokens (x + 1) (y ∷ ps) h.1 k (omega (arith, inside))) in
    rw add-one rest

fits-below : (tokens low : ℕ) (ps : List ℕ) → AllFit (FitsPlace tokens) (λ _ p. p + 1) low ps → All (λ p. p < tokens) ps
fits-below tokens low [] h = All-nil (λ p. p < tokens)
fits-below tokens low (p ∷ ps) h =
    let here : p < tokens = ltb-true p tokens (and_parts (leb low p) (ltb p tokens) h.0.1).1 in
    All-cons (λ p. p < tokens) p ps here (fits-below tokens (p + 1) ps h.1)

no-places : (size : ℕ) → ArePlacesIn size []
no-places size = record { rising = λ k inside. absurd (omega (arith, inside)); below = All-nil (λ p. p < size) }

entries-places : (docs : List Entry) (range low id : ℕ) (es : List BlockEntry) → AllFit (FitsBlockEntry docs range) (λ _ e. e.id + 1) low es → ArePlacesIn (tokens_of docs id) (places_of id es)
entries-places docs range low id [] h = no-places (tokens_of docs id)
entries-places docs range low id (e ∷ es) h = by (e.id == id) refl (entries-places docs range (e.id + 1) id es h.1)
  where
    by : (b : Bool) → (e.id == id) ≡ b → ArePlacesIn (tokens_of docs id) (places_of id es)
        → ArePlacesIn (tokens_of docs id) (option_map_or (λ (x : BlockEntry). x.positions) (cond b (Some e) (find (λ (x : BlockEntry). x.id == id) es)) [])
    by false q rest = rest
    by true q rest =
        let same : e.id ≡ id = eqb-true e.id id q in
        let all : AllFit (FitsPlace (tokens_of docs id)) (λ _ p. p + 1) 0 e.positions = subst (λ i. AllFit (FitsPlace (tokens_of docs i)) (λ _ p. p + 1) 0 e.positions) same h.0.1.0.1.1 in
        record { rising = fits-rise (tokens_of docs id) 0 e.positions all; below = fits-below (tokens_of docs id) 0 e.positions all }

-- a block of documents has rising places of each
pub block-places : (docs : List Entry) (range id : ℕ) (es : List BlockEntry) → FitBlock docs range es → ArePlacesIn (tokens_of docs id) (places_of id es)
block-places docs range id es h = entries-places docs range 0 id es h.1.1

-- a place below the one that may come next doesn't rise
pub below-last : (ps : List ℕ) (i low size : ℕ) → (i ≡ 0 → low ≡ 0) → ((k : ℕ) → k + 1 ≡ i → low ≡ get_or ps k 0 + 1) → i < length ps → get_or ps i 0 < low → ArePlacesIn size ps → ⊥
below-last ps zero low size first last inside less h = let z = first refl in omega (arith, z, less)
below-last ps (suc k) low size first last inside less h =
    let is : low ≡ get_or ps k 0 + 1 = last k (omega arith) in
    let up : get_or ps k 0 < get_or ps (k + 1) 0 = h.rising k (omega (arith, inside)) in
    let here : get_or ps (suc k) 0 ≡ get_or ps (k + 1) 0 = ap (λ n. get_or ps n 0) (omega arith) in
    omega (arith, is, up, less, here)

pub places-seen : (ps : List ℕ) (i size : ℕ) → length ps ≤ i → ((k : ℕ) → k < i → get_or ps k 0 < size) → ((k : ℕ) → k + 1 < i → get_or ps k 0 < get_or ps (k + 1) 0) → ArePlacesIn size ps
places-seen ps i size done below rising = record {
  rising = λ k inside. rising k (omega (arith, inside, done));
  below = λ k d inside. subst (λ n. n < size) (sym (get_or_default ps k d 0 inside)) (below k (omega (arith, inside, done)));
}

-- ---- faults

-- where the places of a block aren't those of a document, a wrong block was kept
pub wrong-kept : (f : Files) (told : Option Files) (cached : Cached) (kept : Kept) (t : List ℕ) (id place : ℕ) (es : List BlockEntry) → place ≡ option_map_or (λ (p : BlockPlace). p.place) (place_of kept.dictionary t (id / 64)) 0
    → MatchOption (place_of kept.dictionary t (id / 64)) (es ≡ []) (λ p. CameFrom told cached kept.outlines (key_of kept.number (id / 64) p) es)
    → (ArePlacesIn (tokens_of kept.outlines id) (places_of id es) → ⊥) → IsTermFault f cached kept t id (Malformed (Segment kept.number) parts.Block place)
wrong-kept f told cached kept t id place es at from wrong = by (place_of kept.dictionary t (id / 64)) at from
  where
    by : (o : Option BlockPlace) → place ≡ option_map_or (λ (p : BlockPlace). p.place) o 0 → MatchOption o (es ≡ []) (λ p. CameFrom told cached kept.outlines (key_of kept.number (id / 64) p) es)
        → MatchOption o (IsOutside (Malformed (Segment kept.number) parts.Block place)) (λ p. IsPlacesFault f cached kept.outlines id (key_of kept.number (id / 64) p) (Malformed (Segment kept.number) parts.Block place))
    by None at none = wrong (subst (λ (l : List BlockEntry). ArePlacesIn (tokens_of kept.outlines id) (places_of id l)) (sym none) (no-places (tokens_of kept.outlines id)))
    by (Some p) at (inl there) = inr (record { file_is = refl; part_is = refl; place_is = at; entries = es; is_kept = there; wrong = wrong })
    by (Some p) at (inr read) = absurd (wrong (block-places kept.outlines (id / 64) id es read.fit))

-- a fault of a block is one of the places
pub places-fault : (f : Files) (cached : Cached) (docs : List Entry) (id : ℕ) (key : BlockKey) (e : SegFault) → IsBlockFault f key docs e → IsPlacesFault f cached docs id key e
places-fault f cached docs id key (Malformed file part place) h = inl h
places-fault f cached docs id key (Missing file) h = h
places-fault f cached docs id key Store h = tt
places-fault f cached docs id key Memory h = tt

pub term-fault : (f : Files) (cached : Cached) (kept : Kept) (t : List ℕ) (id : ℕ) (e : SegFault)
    → MatchOption (place_of kept.dictionary t (id / 64)) (IsOutside e) (λ p. IsBlockFault f (key_of kept.number (id / 64) p) kept.outlines e) → IsTermFault f cached kept t id e
term-fault f cached kept t id e h = by (place_of kept.dictionary t (id / 64)) h
  where
    by : (o : Option BlockPlace) → MatchOption o (IsOutside e) (λ p. IsBlockFault f (key_of kept.number (id / 64) p) kept.outlines e)
        → MatchOption o (IsOutside e) (λ p. IsPlacesFault f cached kept.outlines id (key_of kept.number (id / 64) p) e)
    by None h = h
    by (Some p) h = places-fault f cached kept.outlines id (key_of kept.number (id / 64) p) e h

-- want of memory may come at any time
pub memory-fault : (f : Files) (cached : Cached) (kept : Kept) (t : List ℕ) (id : ℕ) → IsTermFault f cached kept t id Memory
memory-fault f cached kept t id = by (place_of kept.dictionary t (id / 64))
  where
    by : (o : Option BlockPlace) → MatchOption o (IsOutside Memory) (λ p. IsPlacesFault f cached kept.outlines id (key_of kept.number (id / 64) p) Memory)
    by None = tt
    by (Some p) = tt
