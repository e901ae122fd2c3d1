-- Lists and what they are mapped to.
use Rattle.std.proofs.Common.{◌≡◌, ◌<◌, ℕ, List, [], ◌∷◌, ◌++◌, length, map, get_or, set, refl, sym, ap, subst, ◌∙◌}
use Rattle.std.specs.List.{All, swap}
use Rattle.std.specs.List.Sorted.{IsPermutation}
use Rattle.std.proofs.Math.ListN.{get_or-map}
use Rattle.std.proofs.lemmas.List.{length-map, map-set}
use Rattle.std.proofs.lemmas.List.Elements.{All-cons, All-head, All-nil, All-tail}
use Rattle.std.proofs.lemmas.List.Sorted.{IsPermutation-keeps, IsPermutation-refl, IsPermutation-swap, IsPermutation-trans}
use Rattle.bounded_keys.proofs.Counts.{All-append_left, All-append_right}

-- ---- equal lists

abbrev rest_of : {X : Type 0} → List X → List X
rest_of [] = []
rest_of (x ∷ xs) = xs

pub first_same : {X : Type 0} (x y : X) (xs ys : List X) → x ∷ xs ≡ y ∷ ys → x ≡ y
first_same x y xs ys e = ap (λ zs. get_or zs 0 x) e

pub rest_same : {X : Type 0} (x y : X) (xs ys : List X) → x ∷ xs ≡ y ∷ ys → xs ≡ ys
rest_same x y xs ys e = ap rest_of e

-- ---- mapped lists

module _ {X Y : Type 0} (f : X → Y) where
  pub All-unmap : (P : Y → Type 0) (xs : List X) → All P (map f xs) → All (λ x. P (f x)) xs
  All-unmap P [] h = All-nil (λ x. P (f x))
  All-unmap P (x ∷ xs) h = All-cons (λ y. P (f y)) x xs (All-head P (f x) (map f xs) h) (All-unmap P xs (All-tail P (f x) (map f xs) h))

  map-swap : (xs : List X) (i j : ℕ) → map f (swap xs i j) ≡ swap (map f xs) i j
  map-swap [] i j = refl
  map-swap (d ∷ ys) i j = map-set f (set (d ∷ ys) i (get_or (d ∷ ys) j d)) j (get_or (d ∷ ys) i d)
      ∙ (λ k. set ((map-set f (d ∷ ys) i (get_or (d ∷ ys) j d) ∙ ap (set (map f (d ∷ ys)) i) (sym (get_or-map f (d ∷ ys) j d))) k) j (sym (get_or-map f (d ∷ ys) i d) k))

  -- a permutation of mapped items is what a permutation of the items is mapped to
  pub unmapped : (xs : List X) (ys : List Y) → IsPermutation (map f xs) ys → (zs : List X) × IsPermutation xs zs × (map f zs ≡ ys)
  unmapped xs ys p = IsPermutation-keeps (map f xs) (λ us. (zs : List X) × IsPermutation xs zs × (map f zs ≡ us)) (xs, IsPermutation-refl xs, refl)
      (λ l i j low high h.
      let long : length h.0 ≡ length l = sym (length-map h.0 f) ∙ ap length h.2 in (
        swap h.0 i j,
        IsPermutation-trans xs h.0 (swap h.0 i j) h.1 (IsPermutation-swap h.0 (swap h.0 i j) i j (subst (λ n. i < n) (sym long) low) (subst (λ n. j < n) (sym long) high) refl),
        map-swap h.0 i j ∙ ap (λ us. swap us i j) h.2,
      )) ys p

-- ---- lists without their last

module _ {X : Type 0} (P : X → Type 0) (xs front : List X) (x : X) (is : xs ≡ front ++ x ∷ []) (all : All P xs) where
  moved : All P (front ++ x ∷ [])
  moved = subst (All P) is all

  pub All-front : All P front
  All-front = All-append_left P front (x ∷ []) moved

  pub All-last : P x
  All-last = All-head P x [] (All-append_right P front (x ∷ []) moved)
