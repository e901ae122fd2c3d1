-- The first range from one on that a sorted list has.
use Rattle.std.proofs.Common.{◌≡◌, ◌<◌, ◌≤◌, ◌⊎◌, ◌==◌, ◌||◌, ltb, ℕ, zero, suc, Bool, true, false, cond, List, [], ◌∷◌, length, get_or, Option, Some, None, is_some, inl, inr, refl, ap, subst, ◌∙◌, arith}
use Rattle.std.specs.List.{AllPairs, find, list_any}
use Rattle.std.specs.List.Sorted.{IsNonDecreasingBy, IsPartitionPoint}
use Rattle.std.proofs.lemmas.Bool.{or_right}
use Rattle.std.proofs.lemmas.List.{get_or_default}
use Rattle.seg_codec.specs.declared.dictionary.BlockPlace.{BlockPlace}
use Rattle.disk_index.specs.Presence.{IsNext}

-- ---- which numbers a list has

module _ {X : Type 0} (key : X → ℕ) (n : ℕ) where
  pub none-at : (xs : List X) → ((k : ℕ) (d : X) → k < length xs → key (get_or xs k d) ≡ n → ⊥) → list_any (λ x. key x == n) xs ≡ false
  none-at [] away = refl
  none-at (x ∷ xs) away =
      let here : (key x == n) ≡ false = grind (arith, away 0 x (omega arith)) in
      rw here (none-at xs (λ k d inside. away (suc k) d (omega (arith, inside))))

  pub some-at : (xs : List X) (k : ℕ) (d : X) → k < length xs → key (get_or xs k d) ≡ n → list_any (λ x. key x == n) xs ≡ true
  some-at [] k d inside is = absurd (omega (arith, inside))
  some-at (x ∷ xs) zero d inside is = let here : (key x == n) ≡ true = grind (arith, is) in rw here refl
  some-at (x ∷ xs) (suc k) d inside is = or_right (key x == n) (list_any (λ y. key y == n) xs) (some-at xs k d (omega (arith, inside)) is)

-- ---- the first that is not before one

module _ {X : Type 0} (key : X → ℕ) (xs : List X) (from first : ℕ) (point : IsPartitionPoint (λ x. ltb (key x) from ≡ true) (λ x. ltb (key x) from ≡ false) xs first) where
  before : (k : ℕ) (d : X) → k < first → key (get_or xs k d) < from
  before k d lt = grind (arith, point.0 k d (omega arith) lt)

  pub next-none : length xs ≤ first → IsNext (λ n. list_any (λ x. key x == n) xs) from None
  next-none end = λ n low. none-at key n xs (λ k d inside is. let less = before k d (omega (arith, inside, end)) in omega (arith, less, is, low))

  between : (d : X) → IsNonDecreasingBy key xs → first < length xs → (n : ℕ) → from ≤ n → n < key (get_or xs first d) → (k : ℕ) (o : X) → k < length xs → key (get_or xs k o) ≡ n → ⊥
  between d rises inside n low high k o within is =
      let same : get_or xs k o ≡ get_or xs k d = get_or_default xs k o d within in
      let side : (first ≤ k) ⊎ (k < first) = grind arith in
      elim side [
        | inl later ↦ (let up : key (get_or xs first d) ≤ key (get_or xs k d) = rises first k d later within in
            let there : key (get_or xs k d) ≡ n = subst (λ (x : X). key x ≡ n) same is in
            omega (arith, high, up, there))
        | inr sooner ↦ (let less = before k o sooner in omega (arith, low, less, is))
      ]

  pub next-some : (d : X) → IsNonDecreasingBy key xs → first < length xs → IsNext (λ n. list_any (λ x. key x == n) xs) from (Some (key (get_or xs first d)))
  next-some d rises inside =
      let low : from ≤ key (get_or xs first d) = grind (arith, point.1 first d (omega arith) inside) in
      (low, some-at key (key (get_or xs first d)) xs first d inside refl, λ n from_on high. none-at key n xs (between d rises inside n from_on high))

-- ---- another test

pub IsNext-same : (p q : ℕ → Bool) (from : ℕ) (found : Option ℕ) → ((n : ℕ) → q n ≡ p n) → IsNext p from found → IsNext q from found
IsNext-same p q from None same h = λ n low. same n ∙ h n low
IsNext-same p q from (Some first) same h = (h.0, same first ∙ h.1, λ n low high. same n ∙ h.2 n low high)

pub is_some-find : {X : Type 0} (test : X → Bool) (xs : List X) → is_some (find test xs) ≡ list_any test xs
is_some-find test [] = refl
is_some-find test (x ∷ xs) = by (test x) (is_some-find test xs)
  where
    by : (b : Bool) → is_some (find test xs) ≡ list_any test xs → is_some (cond b (Some x) (find test xs)) ≡ b || list_any test xs
    by true rest = refl
    by false rest = rest

-- the blocks of a term stand by rising range
pub blocks-rise : (bs : List BlockPlace) → AllPairs (λ a b. a.range < b.range) bs → IsNonDecreasingBy (λ b. b.range) bs
blocks-rise bs up i j d le inside = by side
  where
    side : (i ≡ j) ⊎ (i < j)
    side = grind (arith, le)

    by : (i ≡ j) ⊎ (i < j) → (get_or bs i d).range ≤ (get_or bs j d).range
    by (inl same) = let is : (get_or bs i d).range ≡ (get_or bs j d).range = ap (λ k. (get_or bs k d).range) same in omega (arith, is)
    by (inr less) = let low = up i j d less inside in omega (arith, low)
