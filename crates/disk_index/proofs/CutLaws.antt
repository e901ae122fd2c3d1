-- Postings cut into blocks, and blocks cut into documents.
use Rattle.std.proofs.Common.{◌≡◌, ◌≢◌, ◌<◌, ◌≤◌, ℕ, ◌+◌, ◌*◌, ◌==◌, eqb, List, [], ◌∷◌, ◌++◌, length, take, drop, map, Bool, true, false, cond, inl, inr, refl, sym, ap, ◌∙◌, append_assoc, arith}
use Rattle.std.proofs.lemmas.Bool.{cases_lt, eq-eqb, ne_eqb}
use Rattle.std.specs.List.{All}
use Rattle.std.proofs.lemmas.List.{length-take, take-append-drop, drop-drop, drop_all}
use Rattle.std.proofs.lemmas.List.Elements.{All-head, All-tail}
use Rattle.ri_base.specs.Documents.{Document}
use Rattle.ri_base.specs.Places.{places, postings_from}
use Rattle.ri_base.specs.declared.places.Place.{Place}
use Rattle.ri_base.proofs.PlacesLemmas.{all_from, postings_from-rise}
use Rattle.seg_codec.specs.Segment.{ahead, block_entry_of, cut, first, id_of, range_of}
use Rattle.seg_codec.specs.declared.blocks.BlockEntry.{BlockEntry}
use Rattle.seg_codec.proofs.CutLemmas.{cut_front}
use Rattle.disk_index.specs.Blocks.{entries_from, entry_of_places}

module _ {A : Type 0} (f : A → ℕ) (k : ℕ) where
  -- each has this number
  abbrev pub Same : List A → Type 0
  Same [] = Unit {0}
  Same (x ∷ xs) = (f x ≡ k) × Same xs

  -- the first, if there is one, has another number
  abbrev pub BeginsOther : List A → Type 0
  BeginsOther [] = Unit {0}
  BeginsOther (x ∷ xs) = f x ≢ k

  pub Same-append : (xs ys : List A) → Same xs → Same ys → Same (xs ++ ys)
  Same-append [] ys s u = u
  Same-append (x ∷ xs) ys s u = (s.0, Same-append xs ys s.1 u)

  -- what has one number is one part, and what stands behind it is cut by itself
  pub cut-append : (x : A) (xs ys : List A) → Same (x ∷ xs) → BeginsOther ys → cut f ((x ∷ xs) ++ ys) ≡ (x ∷ xs) ∷ cut f ys
  unfolding cut
  cut-append x [] [] s o = refl
  cut-append x [] (y ∷ ys) s o =
      let front = cut_front f y ys in
      let test : eqb (f y) (f x) ≡ false = ne_eqb (f y) (f x) (λ e. o (e ∙ s.0)) in
      ap (ahead f x) front ∙ rw test (ap (λ (parts : List (List A)). (x ∷ []) ∷ parts) (sym front))
  cut-append x (z ∷ xs) ys s o =
      let test : eqb (f z) (f x) ≡ true = eq-eqb (f z) (f x) (s.1.0 ∙ sym s.0) in
      ap (ahead f x) (cut-append z xs ys s.1 o) ∙ rw test refl

own-at : (id : ℕ) (ps : List ℕ) → map (λ (p : Place). p.at) (map (λ p. record { id = id; at = p }) ps) ≡ ps
own-at id [] = refl
own-at id (p ∷ ps) = ap (λ (l : List ℕ). p ∷ l) (own-at id ps)

own-id : (id : ℕ) (ps : List ℕ) → Same id_of id (map (λ p. record { id = id; at = p }) ps)
own-id id [] = tt
own-id id (p ∷ ps) = (refl, own-id id ps)

begins-later : (i : ℕ) (ps : List Place) → All (λ p. i + 1 ≤ p.id) ps → BeginsOther id_of i ps
begins-later i [] all = tt
begins-later i (p ∷ ps) all = λ e. let low = All-head (λ (p : Place). i + 1 ≤ p.id) p ps all in omega (arith, e, low)

ids_from : (i : ℕ) (t : List ℕ) (docs : List Document) → All (λ p. i ≤ p.id) (postings_from i t docs)
ids_from i t docs = all_from i (postings_from i t docs) (postings_from-rise i t docs)

-- the entries of postings are those of the documents that have the term
pub entries-cut : (i : ℕ) (t : List ℕ) (docs : List Document) → map block_entry_of (cut id_of (postings_from i t docs)) ≡ entries_from i t docs
unfolding cut
entries-cut i t [] = refl
entries-cut i t (d ∷ docs) = by (places t d) (entries-cut (i + 1) t docs)
  where
    by : (ps : List ℕ) → map block_entry_of (cut id_of (postings_from (i + 1) t docs)) ≡ entries_from (i + 1) t docs
        → map block_entry_of (cut id_of (map (λ p. record { id = i; at = p }) ps ++ postings_from (i + 1) t docs)) ≡ entry_of_places i ps ++ entries_from (i + 1) t docs
    by [] later = later
    by (p ∷ ps) later =
        let one : Place = record { id = i; at = p } in
        let more : List Place = map (λ p. record { id = i; at = p }) ps in
        ap (map block_entry_of) (cut-append id_of i one more (postings_from (i + 1) t docs) (refl, own-id i ps) (begins-later i (postings_from (i + 1) t docs) (ids_from (i + 1) t docs)))
        ∙ ap (λ (l : List ℕ). record { id = i; positions = p ∷ l } ∷ map block_entry_of (cut id_of (postings_from (i + 1) t docs))) (own-at i ps)
        ∙ ap (λ (es : List BlockEntry). record { id = i; positions = p ∷ ps } ∷ es) later

pub postings_from-append : (i : ℕ) (t : List ℕ) (xs ys : List Document) → postings_from i t (xs ++ ys) ≡ postings_from i t xs ++ postings_from (i + length xs) t ys
postings_from-append i t [] ys = ap (λ k. postings_from k t ys) (omega arith)
postings_from-append i t (x ∷ xs) ys =
    let front : List Place = map (λ p. record { id = i; at = p }) (places t x) in
    ap (λ (l : List Place). front ++ l) (postings_from-append (i + 1) t xs ys)
    ∙ ap (λ k. front ++ (postings_from (i + 1) t xs ++ postings_from k t ys)) (omega arith)
    ∙ sym (append_assoc front (postings_from (i + 1) t xs) (postings_from (i + length (x ∷ xs)) t ys))

-- ---- ranges

-- the postings in the documents from a range on, and in those of one range
unfoldable pub postings_behind : List ℕ → List Document → ℕ → List Place
postings_behind t docs r = postings_from (64 * r) t (drop (64 * r) docs)

unfoldable pub postings_in : List ℕ → List Document → ℕ → List Place
postings_in t docs r = postings_from (64 * r) t (take 64 (drop (64 * r) docs))

drop-next : (r : ℕ) (docs : List Document) → drop 64 (drop (64 * r) docs) ≡ drop (64 * (r + 1)) docs
drop-next r docs = drop-drop 64 (64 * r) docs ∙ ap (λ n. drop n docs) (omega arith)

pub postings_behind-split : (t : List ℕ) (docs : List Document) (r : ℕ) → postings_behind t docs r ≡ postings_in t docs r ++ postings_behind t docs (r + 1)
unfolding postings_behind postings_in
postings_behind-split t docs r =
    let here = drop (64 * r) docs in
    ap (postings_from (64 * r) t) (sym (take-append-drop 64 here)) ∙ postings_from-append (64 * r) t (take 64 here) (drop 64 here)
    ∙ ap (λ (l : List Place). postings_from (64 * r) t (take 64 here) ++ l) (elim (cases_lt (length here) 64) [
      | inl short ↦ ap (postings_from (64 * r + length (take 64 here)) t) (drop_all 64 here (omega arith)) ∙ sym (ap (postings_from (64 * (r + 1)) t) (sym (drop-next r docs) ∙ drop_all 64 here (omega arith)))
      | inr long ↦ ap (λ k. postings_from k t (drop 64 here)) (omega (arith, length-take 64 here)) ∙ ap (postings_from (64 * (r + 1)) t) (drop-next r docs)
    ])

own-range : (r id : ℕ) (ps : List ℕ) → 64 * r ≤ id → id < 64 * r + 64 → Same range_of r (map (λ p. record { id = id; at = p }) ps)
own-range r id [] low high = tt
own-range r id (p ∷ ps) low high = (omega arith, own-range r id ps low high)

in-range : (r i : ℕ) (t : List ℕ) (docs : List Document) → 64 * r ≤ i → i + length docs ≤ 64 * r + 64 → Same range_of r (postings_from i t docs)
in-range r i t [] low high = tt
in-range r i t (d ∷ docs) low high =
    Same-append range_of r (map (λ p. record { id = i; at = p }) (places t d)) (postings_from (i + 1) t docs) (own-range r i (places t d) low (omega arith)) (in-range r (i + 1) t docs (omega arith) (omega arith))

pub postings_in-range : (t : List ℕ) (docs : List Document) (r : ℕ) → Same range_of r (postings_in t docs r)
unfolding postings_in
postings_in-range t docs r = in-range r (64 * r) t (take 64 (drop (64 * r) docs)) (omega arith) (omega (arith, length-take 64 (drop (64 * r) docs)))

above : (r : ℕ) (ps : List Place) → All (λ p. 64 * (r + 1) ≤ p.id) ps → BeginsOther range_of r ps
above r [] all = tt
above r (p ∷ ps) all = λ e. let low = All-head (λ (p : Place). 64 * (r + 1) ≤ p.id) p ps all in omega (arith, e, low)

pub postings_behind-other : (t : List ℕ) (docs : List Document) (r : ℕ) → BeginsOther range_of r (postings_behind t docs (r + 1))
unfolding postings_behind
postings_behind-other t docs r = above r (postings_from (64 * (r + 1)) t (drop (64 * (r + 1)) docs)) (ids_from (64 * (r + 1)) t (drop (64 * (r + 1)) docs))

-- each has another number
module _ {A : Type 0} (f : A → ℕ) (k : ℕ) where
  abbrev pub NoneSame : List A → Type 0
  NoneSame [] = Unit {0}
  NoneSame (x ∷ xs) = (f x ≢ k) × NoneSame xs

module _ (k : ℕ) where
  -- each part begins with another range
  abbrev pub PartsOther : List (List Place) → Type 0
  PartsOther [] = Unit {0}
  PartsOther (p ∷ ps) = (first range_of p ≢ k) × PartsOther ps

  ahead-other : (x : Place) (parts : List (List Place)) → range_of x ≢ k → PartsOther parts → PartsOther (ahead range_of x parts)
  ahead-other x [] ne all = (ne, tt)
  ahead-other x ([] ∷ parts) ne all = (ne, all.1)
  ahead-other x ((y ∷ ys) ∷ parts) ne all = by (range_of y == range_of x)
    where
      by : (b : Bool) → PartsOther (cond b ((x ∷ y ∷ ys) ∷ parts) ((x ∷ []) ∷ (y ∷ ys) ∷ parts))
      by true = (ne, all.1)
      by false = (ne, all)

  pub cut-other : (xs : List Place) → NoneSame range_of k xs → PartsOther (cut range_of xs)
  unfolding cut
  cut-other [] none = tt
  cut-other (x ∷ xs) none = ahead-other x (cut range_of xs) none.0 (cut-other xs none.1)

none-same : (r : ℕ) (ps : List Place) → All (λ p. 64 * (r + 1) ≤ p.id) ps → NoneSame range_of r ps
none-same r [] all = tt
none-same r (p ∷ ps) all =
    let P : Place → Type 0 = λ p. 64 * (r + 1) ≤ p.id in
    let low : 64 * (r + 1) ≤ p.id = All-head P p ps all in
    (λ e. omega (arith, e, low), none-same r ps (All-tail P p ps all))

pub postings_behind-none : (t : List ℕ) (docs : List Document) (r : ℕ) → NoneSame range_of r (postings_behind t docs (r + 1))
unfolding postings_behind
postings_behind-none t docs r = none-same r (postings_from (64 * (r + 1)) t (drop (64 * (r + 1)) docs)) (ids_from (64 * (r + 1)) t (drop (64 * (r + 1)) docs))
