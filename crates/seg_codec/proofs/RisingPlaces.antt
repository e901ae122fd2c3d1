-- postings rise, and each lies within its document
use Rattle.std.proofs.Common.{◌≡◌, ◌≢◌, ◌<◌, ◌≤◌, ℕ, zero, suc, ◌+◌, ◌*◌, ◌/◌, List, [], ◌∷◌, ◌++◌, length, map, Bool, true, false, cond, eqb, refl, sym, ap, subst, ◌∙◌, arith}
use Rattle.std.proofs.lemmas.Bool.{eqb-true, eqb-false}
use Rattle.std.proofs.lemmas.List.{length-map}
use Rattle.std.specs.Str.{bytes_eq}
use Rattle.ri_base.specs.Collection.{document_at}
use Rattle.ri_base.specs.Documents.{Document}
use Rattle.ri_base.specs.Places.{places, places_from, postings_from, postings_of}
use Rattle.ri_base.specs.declared.places.Place.{Place}
use Rattle.seg_codec.specs.Blocks.{tokens_of}
use Rattle.seg_codec.specs.Rising.{Follows, Rise}
use Rattle.seg_codec.specs.Segment.{ahead, cut, entry_of, first, range_of}
use Rattle.seg_codec.proofs.CutLemmas.{cut_shape}

pub Rise-lower : (n : ℕ) (tokens : ℕ → ℕ) (id at low from : ℕ) (ps : List Place) → low ≤ id → (low ≡ id → from ≤ at) → Rise n tokens id at ps → Rise n tokens low from ps
Rise-lower n tokens id at low from [] le less up = tt
Rise-lower n tokens id at low from (p ∷ ps) le less up =
    let here : id ≤ p.id = up.0.low in
    (record { low = omega arith; from = begins here; inside = up.0.inside; within = up.0.within }, up.1)
  where
    begins : id ≤ p.id → p.id ≡ low → from ≤ p.at
    begins here e =
        let same : p.id ≡ id = omega arith in
        let both : low ≡ id = omega arith in
        omega (arith, up.0.from same, less both)

document_rises : (n : ℕ) (tokens : ℕ → ℕ) (i low : ℕ) (t : List ℕ) (words : List (List ℕ)) (rest : List Place) → i < n → tokens i ≡ low + length words → Rise n tokens (i + 1) 0 rest
    → Rise n tokens i low (map (λ p. record { id = i; at = p }) (places_from low t words) ++ rest)
document_rises n tokens i low t [] rest inside e up = Rise-lower n tokens (i + 1) 0 i low rest (omega arith) (λ q. absurd (omega (arith, q))) up
document_rises n tokens i low t (x ∷ xs) rest inside e up =
    let below : low < tokens i = omega arith in
    by (bytes_eq x t) below (document_rises n tokens i (low + 1) t xs rest inside (omega arith) up)
  where
    by : (b : Bool) → low < tokens i → Rise n tokens i (low + 1) (map (λ p. record { id = i; at = p }) (places_from (low + 1) t xs) ++ rest)
        → Rise n tokens i low (map (λ p. record { id = i; at = p }) (cond b (low ∷ places_from (low + 1) t xs) (places_from (low + 1) t xs)) ++ rest)
    by true below later = (record { low = omega arith; from = λ q. omega arith; inside = inside; within = below }, later)
    by false below later = Rise-lower n tokens i (low + 1) i low (map (λ p. record { id = i; at = p }) (places_from (low + 1) t xs) ++ rest) (omega arith) (λ q. omega arith) later

postings_from-rise : (n : ℕ) (tokens : ℕ → ℕ) (i : ℕ) (t : List ℕ) (docs : List Document) → i + length docs ≤ n
    → ((k m : ℕ) → m ≡ i + k → k < length docs → tokens m ≡ length (document_at docs k).tokens) → Rise n tokens i 0 (postings_from i t docs)
unfolding places
postings_from-rise n tokens i t [] le known = tt
postings_from-rise n tokens i t (d ∷ docs) le known =
    let here : tokens i ≡ length d.tokens = known 0 i (omega arith) (omega arith) in
    let rest : Rise n tokens (i + 1) 0 (postings_from (i + 1) t docs) = postings_from-rise n tokens (i + 1) t docs (omega arith) (λ k m e lt. known (suc k) m (omega arith) (omega arith)) in
    document_rises n tokens i 0 t d.tokens (postings_from (i + 1) t docs) (omega arith) (omega arith) rest

pub tokens_of-documents : (docs : List Document) (k : ℕ) → k < length docs → tokens_of (map entry_of docs) k ≡ length (document_at docs k).tokens
tokens_of-documents [] k lt = absurd (omega arith)
tokens_of-documents (d ∷ docs) zero lt = refl
tokens_of-documents (d ∷ docs) (suc k) lt = tokens_of-documents docs k (omega arith)

-- the postings of a term rise
pub postings_rise : (t : List ℕ) (docs : List Document) → Rise (length (map entry_of docs)) (tokens_of (map entry_of docs)) 0 0 (postings_of t docs)
unfolding postings_of
postings_rise t docs =
    postings_from-rise (length (map entry_of docs)) (tokens_of (map entry_of docs)) 0 t docs (omega (arith, length-map docs entry_of)) known
  where
    known : (k m : ℕ) → m ≡ 0 + k → k < length docs → tokens_of (map entry_of docs) m ≡ length (document_at docs k).tokens
    known k m e lt =
        let same : m ≡ k = omega arith in
        ap (tokens_of (map entry_of docs)) same ∙ tokens_of-documents docs k lt

-- ---- cut into ranges

abbrev pub AreOf : ℕ → List Place → Type 0
AreOf range [] = Unit {0}
AreOf range (p ∷ ps) = (p.id / 64 ≡ range) × AreOf range ps

-- postings of one range, which rise
pub record IsRange (n : ℕ) (tokens : ℕ → ℕ) (ps : List Place) : Type 0 where
  pub some : 0 < length ps
  pub of : AreOf (first range_of ps) ps
  pub rise : Rise n tokens 0 0 ps

-- ranges that rise, none below this one
abbrev pub Ranges : ℕ → (ℕ → ℕ) → ℕ → List (List Place) → Type 0
Ranges n tokens low [] = Unit {0}
Ranges n tokens low (g ∷ gs) = (low ≤ first range_of g) × (IsRange n tokens g × Ranges n tokens (first range_of g + 1) gs)

head_alone : (n : ℕ) (tokens : ℕ → ℕ) (id at : ℕ) (p : Place) → Follows n tokens id at p → Follows n tokens 0 0 p
head_alone n tokens id at p h = record { low = omega arith; from = λ q. omega arith; inside = h.inside; within = h.within }

pub cut_ranges : (n : ℕ) (tokens : ℕ → ℕ) (low : ℕ) (ps : List Place) → Rise n tokens (64 * low) 0 ps → Ranges n tokens low (cut range_of ps)
unfolding cut
cut_ranges n tokens low [] up = tt
cut_ranges n tokens low (x ∷ []) up =
    let here : 64 * low ≤ x.id = up.0.low in
    let of : AreOf (x.id / 64) (x ∷ []) = (refl, tt) in
    let rise : Rise n tokens 0 0 (x ∷ []) = (head_alone n tokens (64 * low) 0 x up.0, tt) in
    (omega arith, (record { some = omega arith; of = of; rise = rise }, tt))
cut_ranges n tokens low (x ∷ y ∷ ys) up =
    let s = cut_shape range_of y ys in
    let above : 64 * (x.id / 64) ≤ x.id = omega arith in
    let here : 64 * low ≤ x.id = up.0.low in
    let within : low ≤ x.id / 64 = omega arith in
    subst (λ gs. Ranges n tokens low (ahead range_of x gs)) (sym s.2)
    (by s.0 s.1 (eqb (y.id / 64) (x.id / 64)) refl within
    (λ same. subst (Ranges n tokens (x.id / 64)) s.2 (cut_ranges n tokens (x.id / 64) (y ∷ ys) (Rise-lower n tokens x.id (x.at + 1) (64 * (x.id / 64)) 0 (y ∷ ys) above (λ q. omega arith) up.1)))
    (λ differ. subst (Ranges n tokens (x.id / 64 + 1)) s.2 (cut_ranges n tokens (x.id / 64 + 1) (y ∷ ys) (raised differ up.1.0.low))))
  where
    raised : (y.id / 64 ≡ x.id / 64 → ⊥) → x.id ≤ y.id → Rise n tokens (64 * (x.id / 64 + 1)) 0 (y ∷ ys)
    raised differ le =
        let other : y.id / 64 ≢ x.id / 64 = differ in
        let far : 64 * (x.id / 64 + 1) ≤ y.id = omega arith in
        (record { low = far; from = λ q. omega arith; inside = up.1.0.inside; within = up.1.0.within }, up.1.1)

    by : (front : List Place) (others : List (List Place)) (b : Bool) → eqb (y.id / 64) (x.id / 64) ≡ b → low ≤ x.id / 64 → (y.id / 64 ≡ x.id / 64 → Ranges n tokens (x.id / 64) ((y ∷ front) ∷ others)) → ((y.id / 64 ≡ x.id / 64 → ⊥) → Ranges n tokens (x.id / 64 + 1) ((y ∷ front) ∷ others))
        → Ranges n tokens low (cond b ((x ∷ y ∷ front) ∷ others) ((x ∷ []) ∷ (y ∷ front) ∷ others))
    by front others true e within joined apart =
        let same : y.id / 64 ≡ x.id / 64 = eqb-true _ _ e in
        let h = joined same in
        let of : AreOf (x.id / 64) (x ∷ y ∷ front) = (refl, subst (λ r. AreOf r (y ∷ front)) same h.1.0.of) in
        let rise : Rise n tokens 0 0 (x ∷ y ∷ front) = (head_alone n tokens (64 * low) 0 x up.0, (up.1.0, h.1.0.rise.1)) in
        (within, (record { some = omega arith; of = of; rise = rise }, subst (λ r. Ranges n tokens (r + 1) others) same h.1.1))
    by front others false e within joined apart =
        let of : AreOf (x.id / 64) (x ∷ []) = (refl, tt) in
        let rise : Rise n tokens 0 0 (x ∷ []) = (head_alone n tokens (64 * low) 0 x up.0, tt) in
        (within, (record { some = omega arith; of = of; rise = rise }, apart (eqb-false _ _ e)))

-- there are no more ranges than documents
pub ranges_few : (n : ℕ) (tokens : ℕ → ℕ) (low : ℕ) (gs : List (List Place)) → Ranges n tokens low gs → low ≤ n → length gs + low ≤ n
ranges_few n tokens low [] h le = omega arith
ranges_few n tokens low ([] ∷ gs) h le = absurd (omega (arith, h.1.0.some))
ranges_few n tokens low ((p ∷ ps) ∷ gs) h le =
    let inside : p.id < n = h.1.0.rise.0.inside in
    let next : p.id / 64 + 1 ≤ n = omega arith in
    omega (arith, ranges_few n tokens (p.id / 64 + 1) gs h.1.1 next, h.0)
