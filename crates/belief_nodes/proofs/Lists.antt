-- What holds of each element of a list.
use Rattle.std.proofs.Common.{suc, List, [], ◌∷◌, ◌++◌, arith}
use Rattle.std.specs.Prelude.{All}
use Rattle.std.proofs.lemmas.List.Elements.{All-cons, All-nil}

module _ {X : Type 0} (P : X → Type 0) (x : X) (xs : List X) where
  pub all_first : All P (x ∷ xs) → P x
  all_first h = h 0 x (omega arith)

  pub all_rest : All P (x ∷ xs) → All P xs
  all_rest h k d inside = h (suc k) d (omega arith)

module _ {X : Type 0} (P : X → Type 0) where
  pub all_behind : (xs ys : List X) → All P (xs ++ ys) → All P ys
  all_behind [] ys h = h
  all_behind (x ∷ xs) ys h = all_behind xs ys (all_rest P x (xs ++ ys) h)

  pub all_front : (xs ys : List X) → All P (xs ++ ys) → All P xs
  all_front [] ys h = All-nil P
  all_front (x ∷ xs) ys h = All-cons P x xs (all_first P x (xs ++ ys) h) (all_front xs ys (all_rest P x (xs ++ ys) h))
