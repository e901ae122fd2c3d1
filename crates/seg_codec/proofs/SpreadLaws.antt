-- rising places, which are just those where a term stands, are its postings
use Rattle.std.proofs.Common.{◌≡◌, ◌≢◌, ◌<◌, ◌≤◌, ℕ, suc, ◌+◌, List, [], ◌∷◌, ◌++◌, length, get_or, map, Bool, true, false, cond, refl, sym, ap, subst, ◌∙◌, inl, inr, arith}
use Rattle.std.specs.List.{Contains}
use Rattle.std.specs.Str.{bytes_eq}
use Rattle.std.proofs.lemmas.Bool.{cases_eq}
use Rattle.std.proofs.lemmas.Slice.Eq.{bytes_eq-Decides}
use Rattle.ri_base.specs.Collection.{document_at}
use Rattle.ri_base.specs.Documents.{Document}
use Rattle.ri_base.specs.Places.{places, places_from, postings_from, postings_of}
use Rattle.ri_base.specs.declared.places.Place.{Place}
use Rattle.ri_base.proofs.ListLemmas.{Contains-cases, Contains-none}
use Rattle.ri_base.proofs.Order.{same_itself}
use Rattle.seg_codec.specs.Rising.{Rise}

-- the place of a token
abbrev pub at_place : ℕ → ℕ → Place
at_place id at = record { id = id; at = at }

member_follows : (n : ℕ) (tokens : ℕ → ℕ) (id at : ℕ) (ps : List Place) (q : Place) → Rise n tokens id at ps → Contains ps q → (id ≤ q.id) × (q.id ≡ id → at ≤ q.at)
member_follows n tokens id at [] q up c = absurd (Contains-none q c)
member_follows n tokens id at (p ∷ ps) q up c = elim (Contains-cases p ps q c) [
  | inl e ↦ subst (λ (x : Place). (id ≤ x.id) × (x.id ≡ id → at ≤ x.at)) e (up.0.low, up.0.from)
  | inr d ↦ later up.0.low (member_follows n tokens p.id (p.at + 1) ps q up.1 d)
]
  where
    later : id ≤ p.id → (p.id ≤ q.id) × (q.id ≡ p.id → p.at + 1 ≤ q.at) → (id ≤ q.id) × (q.id ≡ id → at ≤ q.at)
    later le h = (
      omega (arith, h.0),
      λ e.
          let first : p.id ≤ q.id = h.0 in
          let same : p.id ≡ id = omega arith in
          let both : q.id ≡ p.id = omega arith in
          omega (arith, up.0.from same, h.1 both),
    )

-- the least that there may be is the first, where it is one of them
first_is : (n : ℕ) (tokens : ℕ → ℕ) (id at : ℕ) (p : Place) (ps : List Place) → Rise n tokens id at (p ∷ ps) → Contains (p ∷ ps) (at_place id at) → p ≡ at_place id at
first_is n tokens id at p ps up c = elim (Contains-cases p ps (at_place id at) c) [
  | inl e ↦ e
  | inr d ↦ clash up.0.low (member_follows n tokens p.id (p.at + 1) ps (at_place id at) up.1 d)
]
  where
    clash : id ≤ p.id → (p.id ≤ id) × (id ≡ p.id → p.at + 1 ≤ at) → p ≡ at_place id at
    clash le h =
        let first : p.id ≤ id = h.0 in
        let same : p.id ≡ id = omega arith in
        let back : id ≡ p.id = omega arith in
        absurd (omega (arith, up.0.from same, h.1 back))

-- at each of these stands the term
abbrev pub AllTold : (ℕ → ℕ → List ℕ) → List ℕ → List Place → Type 0
AllTold word t [] = Unit {0}
AllTold word t (p ∷ ps) = (word p.id p.at ≡ t) × AllTold word t ps

-- from this document and place on, each place where the term stands is one of these
abbrev pub AllThere : ℕ → (ℕ → ℕ) → (ℕ → ℕ → List ℕ) → List ℕ → ℕ → ℕ → List Place → Type 0
AllThere n tokens word t i low ps = (id at : ℕ) → id < n → at < tokens id → i ≤ id → (id ≡ i → low ≤ at) → word id at ≡ t → Contains ps (record { id = id; at = at })

next_document : (n : ℕ) (tokens : ℕ → ℕ) (i low : ℕ) (ps : List Place) → tokens i ≡ low → Rise n tokens i low ps → Rise n tokens (i + 1) 0 ps
next_document n tokens i low [] e up = tt
next_document n tokens i low (p ∷ ps) e up = (record { low = above up.0.low; from = λ q. omega arith; inside = up.0.inside; within = up.0.within }, up.1)
  where
    above : i ≤ p.id → i + 1 ≤ p.id
    above le = elim (cases_eq p.id i) [
      | inl same ↦ absurd (omega (arith, e, up.0.from same, subst (λ k. p.at < tokens k) same up.0.within))
      | inr other ↦
          let differ : p.id ≢ i = other in
          omega arith
    ]

document_spread : (n : ℕ) (tokens : ℕ → ℕ) (word : ℕ → ℕ → List ℕ) (i low : ℕ) (t : List ℕ) (words : List (List ℕ)) (more ps : List Place) → i < n → tokens i ≡ low + length words
    → ((k m : ℕ) → m ≡ low + k → k < length words → word i m ≡ get_or words k []) → Rise n tokens i low ps → AllTold word t ps → AllThere n tokens word t i low ps
    → ((rest : List Place) → Rise n tokens (i + 1) 0 rest → AllTold word t rest → AllThere n tokens word t (i + 1) 0 rest → rest ≡ more)
    → ps ≡ map (λ p. record { id = i; at = p }) (places_from low t words) ++ more
document_spread n tokens word i low t [] more ps inside long known up told there go =
    let end : tokens i ≡ low = omega arith in
    go ps (next_document n tokens i low ps end up) told (λ id at lt within le from is. there id at lt within (omega arith) (λ q. absurd (omega (arith, q))) is)
document_spread n tokens word i low t (x ∷ xs) more ps inside long known up told there go =
    by (bytes_eq x t) refl (λ qs rise said all. document_spread n tokens word i (low + 1) t xs more qs inside (omega arith) known_later rise said all go) ps up told there
  where
    here : word i low ≡ x
    here = known 0 low (omega arith) (omega arith)

    known_later : (k m : ℕ) → m ≡ (low + 1) + k → k < length xs → word i m ≡ get_or xs k []
    known_later k m e lt = known (suc k) m (omega arith) (omega arith)

    without : (q : Place) (qs : List Place) → q ≡ at_place i low → (id at : ℕ) → i ≤ id → (id ≡ i → low + 1 ≤ at) → Contains (q ∷ qs) (record { id = id; at = at }) → Contains qs (record { id = id; at = at })
    without q qs first id at le from c = elim (Contains-cases q qs (record { id = id; at = at }) c) [
      | inl same ↦
          let both : at_place i low ≡ record { id = id; at = at } = sym first ∙ same in
          let ids : i ≡ id = ap (λ (p : Place). p.id) both in
          let ats : low ≡ at = ap (λ (p : Place). p.at) both in
          absurd (omega (arith, from (sym ids), ats))
      | inr d ↦ d
    ]

    raised : (qs : List Place) → bytes_eq x t ≡ false → Rise n tokens i low qs → AllTold word t qs → Rise n tokens i (low + 1) qs
    raised [] e up told = tt
    raised (q ∷ qs) e up told = (record { low = up.0.low; from = beyond; inside = up.0.inside; within = up.0.within }, up.1)
      where
        beyond : q.id ≡ i → low + 1 ≤ q.at
        beyond same = elim (cases_eq q.at low) [
          | inl equal ↦
              let token : word q.id q.at ≡ x = ap (λ k. word k q.at) same ∙ ap (word i) equal ∙ here in
              let is_term : x ≡ t = sym token ∙ told.0 in
              let yes : bytes_eq x t ≡ true = subst (λ y. bytes_eq x y ≡ true) is_term (same_itself x) in
              let clash : true ≡ false = sym yes ∙ e in
              absurd cc
          | inr other ↦
              let differ : q.at ≢ low = other in
              omega (arith, up.0.from same)
        ]

    by : (b : Bool) → bytes_eq x t ≡ b
        → ((qs : List Place) → Rise n tokens i (low + 1) qs → AllTold word t qs → AllThere n tokens word t i (low + 1) qs → qs ≡ map (λ p. record { id = i; at = p }) (places_from (low + 1) t xs) ++ more)
        → (qs : List Place) → Rise n tokens i low qs → AllTold word t qs → AllThere n tokens word t i low qs
        → qs ≡ map (λ p. record { id = i; at = p }) (cond b (low ∷ places_from (low + 1) t xs) (places_from (low + 1) t xs)) ++ more
    by true e rest_is [] up told there =
        let within : low < tokens i = omega arith in
        absurd (Contains-none (at_place i low) (there i low inside within (omega arith) (λ q. omega arith) (here ∙ (bytes_eq-Decides x t).0 e)))
    by true e rest_is (q ∷ qs) up told there =
        let within : low < tokens i = omega arith in
        let first : q ≡ at_place i low = first_is n tokens i low q qs up (there i low inside within (omega arith) (λ q. omega arith) (here ∙ (bytes_eq-Decides x t).0 e)) in
        let later : Rise n tokens i (low + 1) qs = subst (λ (p : Place). Rise n tokens p.id (p.at + 1) qs) first up.1 in
        ap (λ (p : Place). p ∷ qs) first ∙ ap (λ l. at_place i low ∷ l) (rest_is qs later told.1 (λ id at lt inner le from is. without q qs first id at le from (there id at lt inner le (λ same. omega (arith, from same)) is)))
    by false e rest_is qs up told there =
        rest_is qs (raised qs e up told) told (λ id at lt inner le from is. there id at lt inner le (λ same. omega (arith, from same)) is)

docs_spread : (n : ℕ) (tokens : ℕ → ℕ) (word : ℕ → ℕ → List ℕ) (i : ℕ) (t : List ℕ) (docs : List Document) (ps : List Place) → i + length docs ≡ n
    → ((k m : ℕ) → m ≡ i + k → k < length docs → tokens m ≡ length (document_at docs k).tokens) → ((k m j : ℕ) → m ≡ i + k → k < length docs → word m j ≡ get_or (document_at docs k).tokens j [])
    → Rise n tokens i 0 ps → AllTold word t ps → AllThere n tokens word t i 0 ps → ps ≡ postings_from i t docs
unfolding places
docs_spread n tokens word i t [] [] end known words up told there = refl
docs_spread n tokens word i t [] (p ∷ ps) end known words up told there = absurd (omega (arith, up.0.low, up.0.inside))
docs_spread n tokens word i t (d ∷ docs) ps end known words up told there =
    document_spread n tokens word i 0 t d.tokens (postings_from (i + 1) t docs) ps (omega arith) (known 0 i (omega arith) (omega arith) ∙ omega arith)
    (λ k m e lt. words 0 i m (omega arith) (omega arith) ∙ ap (λ j. get_or d.tokens j []) (omega arith)) up told there
    (λ rest r a c. docs_spread n tokens word (i + 1) t docs rest (omega arith) (λ k m e lt. known (suc k) m (omega arith) (omega arith)) (λ k m j e lt. words (suc k) m j (omega arith) (omega arith)) r a c)

-- the token at a place
abbrev pub word_of : List Document → ℕ → ℕ → List ℕ
word_of docs id at = get_or (document_at docs id).tokens at []

pub spread_is_postings : (docs : List Document) (tokens : ℕ → ℕ) (t : List ℕ) (ps : List Place) → ((k : ℕ) → k < length docs → tokens k ≡ length (document_at docs k).tokens) → Rise (length docs) tokens 0 0 ps
    → AllTold (word_of docs) t ps → AllThere (length docs) tokens (word_of docs) t 0 0 ps → postings_of t docs ≡ ps
unfolding postings_of
spread_is_postings docs tokens t ps known up told there =
    sym (docs_spread (length docs) tokens (word_of docs) 0 t docs ps (omega arith)
    (λ k m e lt. let same : m ≡ k = omega arith in ap tokens same ∙ known k lt)
    (λ k m j e lt. let same : m ≡ k = omega arith in ap (λ x. get_or (document_at docs x).tokens j []) same) up told there)
