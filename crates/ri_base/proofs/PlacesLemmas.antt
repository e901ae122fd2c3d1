-- the places of a term in a document, alone and among its postings
use Rattle.std.proofs.Common.{◌≡◌, ◌≢◌, ◌<◌, ◌≤◌, ℕ, zero, suc, ◌+◌, List, [], ◌∷◌, ◌++◌, length, map, take, drop, get_or, Bool, true, false, cond, leb, ltb, ◌==◌, Err, ◌⊎◌, refl, sym, ap, subst, ◌∙◌, inl, inr, add-one, arith}
use Rattle.std.specs.Bool.{⊤}
use Rattle.std.specs.Cmp.Lexicographic.{slice_cmp}
use Rattle.std.specs.List.{All, Contains}
use Rattle.std.specs.List.Sorted.{IsBinarySearchResult, IsNonDecreasingBy, IsPartitionPoint, IsSortedBy, IsStrictlyIncreasing}
use Rattle.std.specs.Ordering.{is_lt, nat_cmp, ordering_reverse}
use Rattle.std.specs.Str.{bytes_eq}
use Rattle.std.specs.declared.cmp.Ordering.TheVariants.{Less, Equal, Greater}
use Rattle.std.proofs.lemmas.Cmp.{nat_list_cmp_total, tied_itself}
use Rattle.std.proofs.lemmas.List.{take-append-drop}
use Rattle.std.proofs.lemmas.List.Elements.{All-cons, All-head, All-nil, All-tail, All-take, All-weaker}
use Rattle.std.proofs.lemmas.List.Sorted.{searchable_from_sorted}
use Rattle.std.proofs.lemmas.Slice.Eq.{bytes_eq-Decides}
use Rattle.ri_base.specs.Collection.{document_at}
use Rattle.ri_base.specs.Documents.{Document}
use Rattle.ri_base.specs.Places.{places, places_at, places_from, postings_from, postings_of}
use Rattle.ri_base.specs.Vocabulary.{IsVocabulary, Occurs}
use Rattle.ri_base.specs.declared.places.Place.{Place}
use Rattle.ri_base.proofs.ListLemmas.{All-drop_within, All-take_within, Contains-here, Contains-later, append_nil}

-- ---- the places in a document

pub IsRisingFrom : ℕ → List ℕ → Type 0
IsRisingFrom low [] = ⊤
IsRisingFrom low (x ∷ xs) = (low ≤ x) × IsRisingFrom (x + 1) xs

IsRisingFrom-lower : (low high : ℕ) (xs : List ℕ) → low ≤ high → IsRisingFrom high xs → IsRisingFrom low xs
unfolding IsRisingFrom
IsRisingFrom-lower low high [] le up = tt
IsRisingFrom-lower low high (x ∷ xs) le up = (omega (arith, up.0), up.1)

pub places_from-rises : (i : ℕ) (t : List ℕ) (xs : List (List ℕ)) → IsRisingFrom i (places_from i t xs)
unfolding IsRisingFrom
places_from-rises i t [] = tt
places_from-rises i t (x ∷ xs) = by (bytes_eq x t) (places_from-rises (i + 1) t xs)
  where
    by : (b : Bool) → IsRisingFrom (i + 1) (places_from (i + 1) t xs) → IsRisingFrom i (cond b (i ∷ places_from (i + 1) t xs) (places_from (i + 1) t xs))
    by true up = (omega arith, up)
    by false up = IsRisingFrom-lower i (i + 1) (places_from (i + 1) t xs) (omega arith) up

IsStrictlyIncreasing-rises : (low : ℕ) (xs : List ℕ) → IsRisingFrom low xs → IsStrictlyIncreasing xs
unfolding IsRisingFrom
IsStrictlyIncreasing-rises low [] up k inside = absurd (omega (arith, inside))
IsStrictlyIncreasing-rises low (x ∷ []) up k inside = absurd (omega (arith, inside))
IsStrictlyIncreasing-rises low (x ∷ y ∷ xs) up zero inside = omega (arith, up.1.0)
IsStrictlyIncreasing-rises low (x ∷ y ∷ xs) up (suc k) inside =
    let rest : get_or (y ∷ xs) k 0 < get_or (y ∷ xs) (suc k) 0 = rw add-one at (IsStrictlyIncreasing-rises (x + 1) (y ∷ xs) up.1 k (omega (arith, inside))) in
    rw add-one rest

-- the places of a term in a document rise
pub places-rise : (t : List ℕ) (d : Document) → IsStrictlyIncreasing (places t d)
unfolding places
places-rise t d = IsStrictlyIncreasing-rises 0 (places_from 0 t d.tokens) (places_from-rises 0 t d.tokens)

pub places_from-below : (i : ℕ) (t : List ℕ) (xs : List (List ℕ)) → All (λ p. p < i + length xs) (places_from i t xs)
places_from-below i t [] = All-nil (λ p. p < i + 0)
places_from-below i t (x ∷ xs) =
    let Q : ℕ → Type 0 = λ p. p < i + length (x ∷ xs) in
    let rest : All Q (places_from (i + 1) t xs) = All-weaker (λ p. p < (i + 1) + length xs) Q (λ p h. omega (arith, h)) (places_from (i + 1) t xs) (places_from-below (i + 1) t xs) in
    by (bytes_eq x t) rest
  where
    by : (b : Bool) → All (λ p. p < i + length (x ∷ xs)) (places_from (i + 1) t xs) → All (λ p. p < i + length (x ∷ xs)) (cond b (i ∷ places_from (i + 1) t xs) (places_from (i + 1) t xs))
    by true rest = All-cons (λ p. p < i + length (x ∷ xs)) i (places_from (i + 1) t xs) (omega arith) rest
    by false rest = rest

-- the places of a term in a document are numbers of its tokens
pub places-below : (t : List ℕ) (d : Document) → All (λ p. p < length d.tokens) (places t d)
unfolding places
places-below t d = All-weaker (λ p. p < 0 + length d.tokens) (λ p. p < length d.tokens) (λ p h. omega (arith, h)) (places_from 0 t d.tokens) (places_from-below 0 t d.tokens)

-- ---- the places in one document, among postings

pub places_at-append : (id : ℕ) (xs ys : List Place) → places_at id (xs ++ ys) ≡ places_at id xs ++ places_at id ys
places_at-append id [] ys = refl
places_at-append id (x ∷ xs) ys = by (x.id == id) (places_at-append id xs ys)
  where
    by : (b : Bool) → places_at id (xs ++ ys) ≡ places_at id xs ++ places_at id ys
        → cond b (x.at ∷ places_at id (xs ++ ys)) (places_at id (xs ++ ys)) ≡ cond b (x.at ∷ places_at id xs) (places_at id xs) ++ places_at id ys
    by true e = ap (λ l. x.at ∷ l) e
    by false e = e

-- postings of the document itself, and of others
places_at-own : (id : ℕ) (ps : List Place) → All (λ p. p.id ≡ id) ps → places_at id ps ≡ map (λ p. p.at) ps
places_at-own id [] all = refl
places_at-own id (p ∷ ps) all =
    let P : Place → Type 0 = λ q. q.id ≡ id in
    let same : p.id ≡ id = All-head P p ps all in
    let test : (p.id == id) ≡ true = grind (arith, same) in
    ap (λ b. cond b (p.at ∷ places_at id ps) (places_at id ps)) test ∙ ap (λ l. p.at ∷ l) (places_at-own id ps (All-tail P p ps all))

places_at-others : (id : ℕ) (ps : List Place) → All (λ p. p.id ≢ id) ps → places_at id ps ≡ []
places_at-others id [] all = refl
places_at-others id (p ∷ ps) all =
    let P : Place → Type 0 = λ q. q.id ≢ id in
    let other : p.id ≢ id = All-head P p ps all in
    let test : (p.id == id) ≡ false = grind (arith, other) in
    ap (λ b. cond b (p.at ∷ places_at id ps) (places_at id ps)) test ∙ places_at-others id ps (All-tail P p ps all)

-- what two searches for the ends of a document's postings leave between them
pub places_at-searched : (id first count : ℕ) (ps rest : List Place) → rest ≡ drop first ps → first ≤ length ps → count ≤ length rest
    → IsPartitionPoint (λ p. ltb p.id id ≡ true) (λ p. ltb p.id id ≡ false) ps first
    → IsPartitionPoint (λ p. leb p.id id ≡ true) (λ p. leb p.id id ≡ false) rest count
    → map (λ p. p.at) (take count rest) ≡ places_at id ps
places_at-searched id first count ps rest is below within low high =
    let Before : Place → Type 0 = λ p. ltb p.id id ≡ true in
    let From : Place → Type 0 = λ p. ltb p.id id ≡ false in
    let UpTo : Place → Type 0 = λ p. leb p.id id ≡ true in
    let After : Place → Type 0 = λ p. leb p.id id ≡ false in
    let Other : Place → Type 0 = λ p. p.id ≢ id in
    let Own : Place → Type 0 = λ p. p.id ≡ id in
    let front : All Other (take first ps) = All-weaker Before Other (λ p h e. not_below p h e) (take first ps) (All-take_within Before ps first below low.0) in
    let from : All From rest = subst (All From) (sym is) (All-drop_within From ps first below low.1) in
    let upto : All UpTo (take count rest) = All-take_within UpTo rest count within high.0 in
    let from_too : All From (take count rest) = All-take From count rest from in
    let mid : All Own (take count rest) = λ k d inside. own (get_or (take count rest) k d) (from_too k d inside) (upto k d inside) in
    let back : All Other (drop count rest) = All-weaker After Other (λ p h e. not_above p h e) (drop count rest) (All-drop_within After rest count within high.1) in
    sym (ap (places_at id) (sym (take-append-drop first ps)) ∙ places_at-append id (take first ps) (drop first ps)
    ∙ ap (λ l. l ++ places_at id (drop first ps)) (places_at-others id (take first ps) front)
    ∙ ap (places_at id) (sym is)
    ∙ ap (places_at id) (sym (take-append-drop count rest)) ∙ places_at-append id (take count rest) (drop count rest)
    ∙ ap (λ l. places_at id (take count rest) ++ l) (places_at-others id (drop count rest) back)
    ∙ append_nil (places_at id (take count rest)) ∙ places_at-own id (take count rest) mid)
  where
    not_below : (p : Place) → ltb p.id id ≡ true → p.id ≡ id → ⊥
    not_below p h e = let f : p.id < id = grind (arith, h) in omega (arith, e, f)

    not_above : (p : Place) → leb p.id id ≡ false → p.id ≡ id → ⊥
    not_above p h e = let f : id < p.id = grind (arith, h) in omega (arith, e, f)

    own : (p : Place) → ltb p.id id ≡ false → leb p.id id ≡ true → p.id ≡ id
    own p h k =
        let f : id ≤ p.id = grind (arith, h) in
        let g : p.id ≤ id = grind (arith, k) in
        omega (arith, f, g)

-- ---- the postings of a term

-- ids that don't fall, from low on
pub DontFallFrom : ℕ → List Place → Type 0
DontFallFrom low [] = ⊤
DontFallFrom low (p ∷ ps) = (low ≤ p.id) × DontFallFrom p.id ps

pub DontFallFrom-lower : (low high : ℕ) (ps : List Place) → low ≤ high → DontFallFrom high ps → DontFallFrom low ps
unfolding DontFallFrom
DontFallFrom-lower low high [] le up = tt
DontFallFrom-lower low high (p ∷ ps) le up = (omega (arith, up.0), up.1)

DontFallFrom-places : (low id : ℕ) (xs : List ℕ) (rest : List Place) → low ≤ id → DontFallFrom id rest → DontFallFrom low (map (λ p. record { id = id; at = p }) xs ++ rest)
unfolding DontFallFrom
DontFallFrom-places low id [] rest le up = DontFallFrom-lower low id rest le up
DontFallFrom-places low id (x ∷ xs) rest le up = (le, DontFallFrom-places id id xs rest (omega arith) up)

pub postings_from-rise : (id : ℕ) (t : List ℕ) (docs : List Document) → DontFallFrom id (postings_from id t docs)
unfolding DontFallFrom
postings_from-rise id t [] = tt
postings_from-rise id t (d ∷ docs) =
    DontFallFrom-places id id (places t d) (postings_from (id + 1) t docs) (omega arith) (DontFallFrom-lower id (id + 1) (postings_from (id + 1) t docs) (omega arith) (postings_from-rise (id + 1) t docs))

pub all_from : (low : ℕ) (ps : List Place) → DontFallFrom low ps → All (λ p. low ≤ p.id) ps
unfolding DontFallFrom
all_from low [] up = All-nil (λ p. low ≤ p.id)
all_from low (p ∷ ps) up = All-cons (λ p. low ≤ p.id) p ps up.0 (all_from low ps (DontFallFrom-lower low p.id ps up.0 up.1))

pub IsNonDecreasingBy-from : (low : ℕ) (ps : List Place) → DontFallFrom low ps → IsNonDecreasingBy (λ p. p.id) ps
unfolding DontFallFrom
IsNonDecreasingBy-from low [] up i j d le inside = absurd (omega (arith, inside))
IsNonDecreasingBy-from low (p ∷ ps) up zero zero d le inside = omega arith
IsNonDecreasingBy-from low (p ∷ ps) up zero (suc j) d le inside = all_from p.id ps up.1 j d (omega (arith, inside))
IsNonDecreasingBy-from low (p ∷ ps) up (suc i) zero d le inside = absurd (omega (arith, le))
IsNonDecreasingBy-from low (p ∷ ps) up (suc i) (suc j) d le inside = IsNonDecreasingBy-from p.id ps up.1 i j d (omega (arith, le)) (omega (arith, inside))

-- the ids of a term's postings don't fall
pub postings_of-rise : (t : List ℕ) (docs : List Document) → IsNonDecreasingBy (λ p. p.id) (postings_of t docs)
unfolding postings_of
postings_of-rise t docs = IsNonDecreasingBy-from 0 (postings_from 0 t docs) (postings_from-rise 0 t docs)

pub made_own : (id : ℕ) (xs : List ℕ) → places_at id (map (λ p. record { id = id; at = p }) xs) ≡ xs
made_own id [] = refl
made_own id (x ∷ xs) =
    let test : (id == id) ≡ true = grind arith in
    let rest = places_at id (map (λ p. record { id = id; at = p }) xs) in
    ap (λ b. cond b (x ∷ rest) rest) test ∙ ap (λ l. x ∷ l) (made_own id xs)

pub made_other : (i id : ℕ) (xs : List ℕ) → i ≢ id → places_at id (map (λ p. record { id = i; at = p }) xs) ≡ []
made_other i id [] differ = refl
made_other i id (x ∷ xs) differ =
    let test : (i == id) ≡ false = grind arith in
    let rest = places_at id (map (λ p. record { id = i; at = p }) xs) in
    ap (λ b. cond b (x ∷ rest) rest) test ∙ made_other i id xs differ

pub later : (i id : ℕ) (t : List ℕ) (docs : List Document) → id < i → places_at id (postings_from i t docs) ≡ []
later i id t [] h = refl
later i id t (d ∷ docs) h =
    let differ : i ≢ id = λ e. omega (arith, e) in
    places_at-append id (map (λ p. record { id = i; at = p }) (places t d)) (postings_from (i + 1) t docs)
    ∙ ap (λ l. l ++ places_at id (postings_from (i + 1) t docs)) (made_other i id (places t d) differ) ∙ later (i + 1) id t docs (omega arith)

pub at_from : (i n id : ℕ) (t : List ℕ) (docs : List Document) → id ≡ i + n → n < length docs → places_at id (postings_from i t docs) ≡ places t (document_at docs n)
at_from i n id t [] e h = absurd (omega arith)
at_from i zero id t (d ∷ docs) e h =
    let is : id ≡ i = omega arith in
    let mine : places_at id (map (λ p. record { id = i; at = p }) (places t d)) ≡ places t d = subst (λ k. places_at k (map (λ p. record { id = i; at = p }) (places t d)) ≡ places t d) (sym is) (made_own i (places t d)) in
    places_at-append id (map (λ p. record { id = i; at = p }) (places t d)) (postings_from (i + 1) t docs)
    ∙ ap (λ l. l ++ places_at id (postings_from (i + 1) t docs)) mine
    ∙ ap (λ l. places t d ++ l) (later (i + 1) id t docs (omega arith)) ∙ append_nil (places t d)
at_from i (suc n) id t (d ∷ docs) e h =
    let differ : i ≢ id = λ q. omega (arith, q) in
    places_at-append id (map (λ p. record { id = i; at = p }) (places t d)) (postings_from (i + 1) t docs)
    ∙ ap (λ l. l ++ places_at id (postings_from (i + 1) t docs)) (made_other i id (places t d) differ) ∙ at_from (i + 1) n id t docs (omega arith) (omega arith)

-- among a term's postings, those of a document are its places there
pub places_at-postings : (id : ℕ) (t : List ℕ) (docs : List Document) → id < length docs → places_at id (postings_of t docs) ≡ places t (document_at docs id)
unfolding postings_of
places_at-postings id t docs h = at_from 0 id id t docs (omega arith) h

-- ---- a term that no document has

pub none_from : (i : ℕ) (t : List ℕ) (xs : List (List ℕ)) → (Contains xs t → ⊥) → places_from i t xs ≡ []
none_from i t [] none = refl
none_from i t (x ∷ xs) none = by (bytes_eq x t) refl (none_from (i + 1) t xs (λ c. none (Contains-later x xs t c)))
  where
    by : (b : Bool) → bytes_eq x t ≡ b → places_from (i + 1) t xs ≡ [] → cond b (i ∷ places_from (i + 1) t xs) (places_from (i + 1) t xs) ≡ []
    by true e r = absurd (none (subst (Contains (x ∷ xs)) ((bytes_eq-Decides x t).0 e) (Contains-here x xs)))
    by false e r = r

pub occurs_at : (id : ℕ) (t : List ℕ) (docs : List Document) → id < length docs → Contains (document_at docs id).tokens t → Occurs t docs
occurs_at id t [] h c = absurd (omega arith)
occurs_at zero t (d ∷ docs) h c = inl c
occurs_at (suc id) t (d ∷ docs) h c = inr (occurs_at id t docs (omega arith) c)

-- a term that no document has has no places
pub places-absent : (id : ℕ) (t : List ℕ) (docs : List Document) → id < length docs → (Occurs t docs → ⊥) → places t (document_at docs id) ≡ []
unfolding places
places-absent id t docs h none = none_from 0 t (document_at docs id).tokens (λ c. none (occurs_at id t docs h c))

-- what a search of the vocabulary that found no rank says of a term
pub absent : (v : List (List ℕ)) (docs : List Document) (t : List ℕ) (i : ℕ) → IsVocabulary v docs → IsBinarySearchResult (λ y. slice_cmp nat_cmp y t) v (Err i) → Occurs t docs → ⊥
absent v docs t i voc found o =
    let point = found (searchable_from_sorted nat_list_cmp_total (λ (x : List ℕ). x) v t sorted) in
    let c : Contains v t = voc.all t o in
    sides c point (grind arith)
  where
    sorted : IsSortedBy (λ a b. is_lt (slice_cmp nat_cmp a b)) v
    sorted = λ k d low h.
        let less : slice_cmp nat_cmp (get_or v k d) (get_or v (k + 1) d) ≡ Less = voc.rising k (k + 1) d (omega arith) h in
        let back : slice_cmp nat_cmp (get_or v (k + 1) d) (get_or v k d) ≡ Greater = nat_list_cmp_total.antisymm (get_or v (k + 1) d) (get_or v k d) ∙ ap ordering_reverse less in
        ap is_lt back

    tied : slice_cmp nat_cmp t t ≡ Equal
    tied = tied_itself nat_list_cmp_total t

    sides : (c : Contains v t) → IsPartitionPoint (λ y. slice_cmp nat_cmp y t ≡ Less) (λ y. slice_cmp nat_cmp y t ≡ Greater) v i → (c.0 < i) ⊎ (i ≤ c.0) → ⊥
    sides c p (inl h) =
        let e : slice_cmp nat_cmp (get_or v c.0 t) t ≡ Less = p.0 c.0 t (omega arith) h in
        let clash : Less ≡ Equal = sym e ∙ ap (λ y. slice_cmp nat_cmp y t) c.2 ∙ tied in
        cc
    sides c p (inr h) =
        let e : slice_cmp nat_cmp (get_or v c.0 t) t ≡ Greater = p.1 c.0 t h c.1 in
        let clash : Greater ≡ Equal = sym e ∙ ap (λ y. slice_cmp nat_cmp y t) c.2 ∙ tied in
        cc
