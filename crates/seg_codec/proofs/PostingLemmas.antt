-- where a term stands in documents, and its postings
use Rattle.std.proofs.Common.{◌≡◌, ◌<◌, ℕ, zero, suc, ◌+◌, List, [], ◌∷◌, ◌++◌, length, get_or, map, Bool, true, false, cond, refl, sym, ap, subst, ◌∙◌, inl, inr, arith}
use Rattle.std.specs.List.{Contains}
use Rattle.std.specs.Str.{bytes_eq}
use Rattle.std.proofs.lemmas.List.{get_or_default}
use Rattle.std.proofs.lemmas.List.Elements.{Contains-append_right}
use Rattle.std.proofs.lemmas.Slice.Eq.{bytes_eq-Decides}
use Rattle.ri_base.specs.Collection.{document_at}
use Rattle.ri_base.specs.Documents.{Document}
use Rattle.ri_base.specs.Places.{places, places_from, postings_from, postings_of}
use Rattle.ri_base.specs.Vocabulary.{Occurs}
use Rattle.ri_base.specs.declared.places.Place.{Place}
use Rattle.ri_base.proofs.ListLemmas.{Contains-cases, Contains-here, Contains-later, Contains-none}
use Rattle.ri_base.proofs.Order.{same_itself}
use Rattle.seg_codec.proofs.SpreadLaws.{AllTold, at_place, word_of}

-- ---- at each posting stands the term

document_told : (word : ℕ → ℕ → List ℕ) (i low : ℕ) (t : List ℕ) (words : List (List ℕ)) (rest : List Place) → ((k m : ℕ) → m ≡ low + k → k < length words → word i m ≡ get_or words k []) → AllTold word t rest
    → AllTold word t (map (λ p. record { id = i; at = p }) (places_from low t words) ++ rest)
document_told word i low t [] rest known told = told
document_told word i low t (x ∷ xs) rest known told =
    by (bytes_eq x t) refl (document_told word i (low + 1) t xs rest (λ k m e lt. known (suc k) m (omega arith) (omega arith)) told)
  where
    here : word i low ≡ x
    here = known 0 low (omega arith) (omega arith)

    by : (b : Bool) → bytes_eq x t ≡ b → AllTold word t (map (λ p. record { id = i; at = p }) (places_from (low + 1) t xs) ++ rest)
        → AllTold word t (map (λ p. record { id = i; at = p }) (cond b (low ∷ places_from (low + 1) t xs) (places_from (low + 1) t xs)) ++ rest)
    by true e later = (here ∙ (bytes_eq-Decides x t).0 e, later)
    by false e later = later

all_told : (word : ℕ → ℕ → List ℕ) (i : ℕ) (t : List ℕ) (docs : List Document) → ((k m j : ℕ) → m ≡ i + k → k < length docs → word m j ≡ get_or (document_at docs k).tokens j []) → AllTold word t (postings_from i t docs)
unfolding places
all_told word i t [] known = tt
all_told word i t (d ∷ docs) known =
    document_told word i 0 t d.tokens (postings_from (i + 1) t docs)
    (λ k m e lt. known 0 i m (omega arith) (omega arith) ∙ ap (λ j. get_or d.tokens j []) (omega arith))
    (all_told word (i + 1) t docs (λ k m j e lt. known (suc k) m j (omega arith) (omega arith)))

told_member : (word : ℕ → ℕ → List ℕ) (t : List ℕ) (ps : List Place) (p : Place) → AllTold word t ps → Contains ps p → word p.id p.at ≡ t
told_member word t [] p told c = absurd (Contains-none p c)
told_member word t (q ∷ ps) p told c = elim (Contains-cases q ps p c) [
  | inl e ↦ subst (λ (x : Place). word x.id x.at ≡ t) e told.0
  | inr d ↦ told_member word t ps p told.1 d
]

pub posting_stands : (docs : List Document) (t : List ℕ) (p : Place) → Contains (postings_of t docs) p → word_of docs p.id p.at ≡ t
unfolding postings_of
posting_stands docs t p c =
    told_member (word_of docs) t (postings_from 0 t docs) p (all_told (word_of docs) 0 t docs (λ k m j e lt. let same : m ≡ k = omega arith in ap (λ x. get_or (document_at docs x).tokens j []) same)) c

-- ---- where the term stands is a posting

document_there : (i low k : ℕ) (t : List ℕ) (words : List (List ℕ)) (rest : List Place) (m : ℕ) → m ≡ low + k → k < length words → get_or words k [] ≡ t
    → Contains (map (λ p. record { id = i; at = p }) (places_from low t words) ++ rest) (at_place i m)
document_there i low k t [] rest m is lt e = absurd (omega arith)
document_there i low zero t (x ∷ xs) rest m is lt e =
    let known : bytes_eq x t ≡ true = subst (λ y. bytes_eq x y ≡ true) e (same_itself x) in
    let start : m ≡ low = omega arith in
    rw (known, start) (Contains-here (at_place i low) (map (λ p. record { id = i; at = p }) (places_from (low + 1) t xs) ++ rest))
document_there i low (suc k) t (x ∷ xs) rest m is lt e =
    by (bytes_eq x t) (document_there i (low + 1) k t xs rest m (omega arith) (omega arith) e)
  where
    by : (b : Bool) → Contains (map (λ p. record { id = i; at = p }) (places_from (low + 1) t xs) ++ rest) (at_place i m)
        → Contains (map (λ p. record { id = i; at = p }) (cond b (low ∷ places_from (low + 1) t xs) (places_from (low + 1) t xs)) ++ rest) (at_place i m)
    by true c = Contains-later (at_place i low) (map (λ p. record { id = i; at = p }) (places_from (low + 1) t xs) ++ rest) (at_place i m) c
    by false c = c

all_there : (i : ℕ) (t : List ℕ) (docs : List Document) (k at m : ℕ) → m ≡ i + k → k < length docs → at < length (document_at docs k).tokens → get_or (document_at docs k).tokens at [] ≡ t → Contains (postings_from i t docs) (at_place m at)
unfolding places
all_there i t [] k at m is lt within e = absurd (omega arith)
all_there i t (d ∷ docs) zero at m is lt within e =
    let start : m ≡ i = omega arith in
    subst (λ (n : ℕ). Contains (postings_from i t (d ∷ docs)) (at_place n at)) (sym start) (document_there i 0 at t d.tokens (postings_from (i + 1) t docs) at (omega arith) within e)
all_there i t (d ∷ docs) (suc k) at m is lt within e =
    Contains-append_right (map (λ p. record { id = i; at = p }) (places_from 0 t d.tokens)) (postings_from (i + 1) t docs) (at_place m at) (all_there (i + 1) t docs k at m (omega arith) (omega arith) within e)

pub token_posted : (docs : List Document) (t : List ℕ) (id at : ℕ) → id < length docs → at < length (document_at docs id).tokens → word_of docs id at ≡ t → Contains (postings_of t docs) (record { id = id; at = at })
unfolding postings_of
token_posted docs t id at inside within e = all_there 0 t docs id at id (omega arith) inside within e

-- ---- where a term of the documents stands

pub record Stands (t : List ℕ) (docs : List Document) : Type 0 where
  pub id : ℕ
  pub at : ℕ
  pub inside : id < length docs
  pub within : at < length (document_at docs id).tokens
  pub is : word_of docs id at ≡ t

pub occurs_stands : (t : List ℕ) (docs : List Document) → Occurs t docs → Stands t docs
occurs_stands t [] o = absurd o
occurs_stands t (d ∷ docs) (inl c) =
    let read : get_or d.tokens c.0 [] ≡ get_or d.tokens c.0 t = get_or_default d.tokens c.0 [] t c.1 in
    record { id = 0; at = c.0; inside = omega arith; within = c.1; is = read ∙ c.2 }
occurs_stands t (d ∷ docs) (inr o) =
    let s = occurs_stands t docs o in
    record { id = suc s.id; at = s.at; inside = omega (arith, s.inside); within = s.within; is = s.is }
