-- A map from docnos to their places, and the places.
use Rattle.std.proofs.Common.{◌≡◌, ℕ, Bool, true, false, List, refl, ap, sym, ◌∙◌, Option, Some, None, cond, inl, inr}
use Rattle.std.specs.Str.{bytes_eq}
use Rattle.std.proofs.lemmas.Bool.{cases_eq}
use Rattle.std.proofs.lemmas.Slice.Eq.{bytes_eq-Decides}
use Rattle.holdings.specs.Kept.{IsPlaced}
use Rattle.holdings.specs.declared.spot.Spot.{Spot}

pub some_same : {A : Type 0} (x y : A) → Some x ≡ Some y → x ≡ y
some_same x y e = cc

pub none_some : {A : Type 0} (x : A) (o : Option A) → o ≡ None → o ≡ Some x → ⊥
none_some x o a b = cc

-- whether two places are the same
data Same (s t : Spot) : Type 0 where
  same : t ≡ s → Same s t
  other : (t.part ≡ s.part → t.id ≡ s.id → ⊥) → Same s t

spot_same : (s t : Spot) → t.part ≡ s.part → t.id ≡ s.id → t ≡ s
spot_same s t p i =
    let one : t ≡ record { part = s.part; id = t.id } = ap (λ (x : ℕ). record { part = x; id = t.id }) p in
    one ∙ ap (λ (x : ℕ). record { part = s.part; id = x }) i

decide : (s t : Spot) → Same s t
decide s t = elim (cases_eq t.part s.part) [
  | inl p ↦ elim (cases_eq t.id s.id) [ inl i ↦ same (spot_same s t p i) | inr ne ↦ other (λ _ i. ne i) ]
  | inr ne ↦ other (λ p _. ne p)
]

data Told (b : Bool) : Type 0 where
  yes : b ≡ true → Told b
  no : b ≡ false → Told b

told : (b : Bool) → Told b
told true = yes refl
told false = no refl

module _ (at at' : List ℕ → Option Spot) (c c' : ℕ → ℕ → Option (List ℕ)) (k : List ℕ) (s : Spot) (placed : IsPlaced at c) where
  module _ (none : at k ≡ None) (put : (q : List ℕ) → at' q ≡ cond (bytes_eq k q) (Some s) (at q)) (free : c s.part s.id ≡ None) (here : c' s.part s.id ≡ Some k)
      (others : (p i : ℕ) → (p ≡ s.part → i ≡ s.id → ⊥) → c' p i ≡ c p i) where
    add-forth : (q : List ℕ) (t : Spot) → at' q ≡ Some t → c' t.part t.id ≡ Some q
    add-forth q t e = elim (told (bytes_eq k q)) [
      | yes y ↦
          let eq : k ≡ q = (bytes_eq-Decides k q).0 y in
          let st : s ≡ t = some_same s t (sym (put q ∙ ap (λ b. cond b (Some s) (at q)) y) ∙ e) in
          ap (λ (x : Spot). c' x.part x.id) (sym st) ∙ here ∙ ap Some eq
      | no n ↦
          let old : at q ≡ Some t = sym (put q ∙ ap (λ b. cond b (Some s) (at q)) n) ∙ e in
          let stood : c t.part t.id ≡ Some q = (placed q t).0 old in
          elim (decide s t) [
            | same st ↦ absurd (none_some q _ free (ap (λ (x : Spot). c x.part x.id) (sym st) ∙ stood))
            | other ne ↦ others t.part t.id ne ∙ stood
          ]
    ]

    add-back : (q : List ℕ) (t : Spot) → c' t.part t.id ≡ Some q → at' q ≡ Some t
    add-back q t e = elim (decide s t) [
      | same st ↦
          let kq : k ≡ q = some_same k q (sym here ∙ ap (λ (x : Spot). c' x.part x.id) (sym st) ∙ e) in
          put q ∙ ap (λ b. cond b (Some s) (at q)) ((bytes_eq-Decides k q).1 kq) ∙ ap Some (sym st)
      | other ne ↦
          let old : at q ≡ Some t = (placed q t).1 (sym (others t.part t.id ne) ∙ e) in
          elim (told (bytes_eq k q)) [
            | yes y ↦ absurd (none_some t (at k) none (ap at ((bytes_eq-Decides k q).0 y) ∙ old))
            | no n ↦ put q ∙ ap (λ b. cond b (Some s) (at q)) n ∙ old
          ]
    ]

    -- one document more, at a place where there was none
    pub IsPlaced-add : IsPlaced at' c'
    IsPlaced-add = λ q t. (add-forth q t, add-back q t)

  module _ (was : at k ≡ Some s) (put : (q : List ℕ) → at' q ≡ cond (bytes_eq k q) None (at q)) (gone : c' s.part s.id ≡ None)
      (others : (p i : ℕ) → (p ≡ s.part → i ≡ s.id → ⊥) → c' p i ≡ c p i) where
    drop-forth : (q : List ℕ) (t : Spot) → at' q ≡ Some t → c' t.part t.id ≡ Some q
    drop-forth q t e = elim (told (bytes_eq k q)) [
      | yes y ↦ absurd (none_some t (at' q) (put q ∙ ap (λ b. cond b None (at q)) y) e)
      | no n ↦
          let stood : c t.part t.id ≡ Some q = (placed q t).0 (sym (put q ∙ ap (λ b. cond b None (at q)) n) ∙ e) in
          elim (decide s t) [
            | same st ↦
                let kq : k ≡ q = some_same k q (sym ((placed k s).0 was) ∙ ap (λ (x : Spot). c x.part x.id) (sym st) ∙ stood) in
                let clash : true ≡ false = sym ((bytes_eq-Decides k q).1 kq) ∙ n in
                absurd cc
            | other ne ↦ others t.part t.id ne ∙ stood
          ]
    ]

    drop-back : (q : List ℕ) (t : Spot) → c' t.part t.id ≡ Some q → at' q ≡ Some t
    drop-back q t e = elim (decide s t) [
      | same st ↦ absurd (none_some q _ gone (ap (λ (x : Spot). c' x.part x.id) (sym st) ∙ e))
      | other ne ↦
          let old : at q ≡ Some t = (placed q t).1 (sym (others t.part t.id ne) ∙ e) in
          elim (told (bytes_eq k q)) [
            | yes y ↦
                let st : t ≡ s = some_same t s (sym old ∙ ap at (sym ((bytes_eq-Decides k q).0 y)) ∙ was) in
                absurd (ne (ap (λ (x : Spot). x.part) st) (ap (λ (x : Spot). x.id) st))
            | no n ↦ put q ∙ ap (λ b. cond b None (at q)) n ∙ old
          ]
    ]

    -- one document less
    pub IsPlaced-drop : IsPlaced at' c'
    IsPlaced-drop = λ q t. (drop-forth q t, drop-back q t)

    -- the docno stood nowhere else
    pub once : (p i : ℕ) → c p i ≡ Some k → (p ≡ s.part) × (i ≡ s.id)
    once p i e =
        let t : Spot = record { part = p; id = i } in
        let st : t ≡ s = some_same t s (sym ((placed k t).1 e) ∙ was) in
        (ap (λ (x : Spot). x.part) st, ap (λ (x : Spot). x.id) st)
