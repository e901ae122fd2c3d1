-- What stands among others.
use Rattle.std.proofs.Common.{◌≡◌, ◌≤◌, ℕ, List, [], ◌∷◌, ◌++◌, length, map, take, drop, refl, sym, ap, subst, ◌∙◌, arith, append_assoc}
use Rattle.std.specs.List.{All}
use Rattle.std.specs.List.Sorted.{IsPermutation}
use Rattle.std.specs.declared.cmp.Ordering.{Ordering}
use Rattle.std.proofs.lemmas.List.{length-take, take-append-drop}
use Rattle.std.proofs.lemmas.List.Sorted.{All-permutation, IsPermutation-append_left, IsPermutation-map, IsPermutation-trans}
use Rattle.first_few.specs.First.{IsFront}
use Rattle.bounded_keys.specs.Kept.{AreAmong}
use Rattle.bounded_keys.proofs.Counts.{All-append_left}

module _ {X : Type 0} where
  pub all_among : (P : X → Type 0) (xs ys : List X) → AreAmong xs ys → All P ys → All P xs
  all_among P xs ys h all = All-append_left P xs h.others (All-permutation P ys (xs ++ h.others) h.split all)

  pub front_among : (order : X → X → Ordering) (k : ℕ) (xs front : List X) → IsFront order k xs front → AreAmong front xs
  front_among order k xs front f = record {
    others = drop k f.ranking;
    split = subst (λ ys. IsPermutation xs ys) (sym (take-append-drop k f.ranking) ∙ ap (λ ys. ys ++ drop k f.ranking) (sym f.first)) f.same;
  }

  pub front_few : (order : X → X → Ordering) (k : ℕ) (xs front : List X) → IsFront order k xs front → length front ≤ k
  front_few order k xs front f = let e : length front ≡ length (take k f.ranking) = ap length f.first in omega (arith, e, length-take k f.ranking)

module _ {X Y : Type 0} (f : X → Y) where
  map_append : (xs ys : List X) → map f (xs ++ ys) ≡ map f xs ++ map f ys
  map_append [] ys = refl
  map_append (x ∷ xs) ys = ap (λ zs. f x ∷ zs) (map_append xs ys)

  pub among_mapped : (front : List Y) (xs ys : List X) → AreAmong front (map f xs) → AreAmong xs ys → AreAmong front (map f ys)
  among_mapped front xs ys h g = record {
    others = h.others ++ map f g.others;
    split = subst (λ zs. IsPermutation (map f ys) zs) (append_assoc front h.others (map f g.others))
        (IsPermutation-trans _ _ _ (subst (λ zs. IsPermutation (map f ys) zs) (map_append xs g.others) (IsPermutation-map f ys (xs ++ g.others) g.split))
        (IsPermutation-append_left (map f g.others) (map f xs) (front ++ h.others) h.split));
  }
