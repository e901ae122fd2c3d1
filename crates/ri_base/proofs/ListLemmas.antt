-- lists that no page of std has lemmas on
use Rattle.std.proofs.Common.{◌≡◌, ◌≤◌, ◌-◌, ◌⊎◌, ℕ, zero, suc, ◌+◌, List, [], ◌∷◌, ◌++◌, length, take, drop, refl, ap, inl, inr, arith, length-drop}
use Rattle.std.specs.List.{All, AllWithin, Contains}
use Rattle.std.proofs.lemmas.List.{get_or-take, get_or-drop, length-take-le}

pub append_nil : {X : Type 0} (xs : List X) → xs ++ [] ≡ xs
append_nil [] = refl
append_nil (x ∷ xs) = ap (λ l. x ∷ l) (append_nil xs)

-- membership by recursion on the list
pub Contains-here : {X : Type 0} (x : X) (xs : List X) → Contains (x ∷ xs) x
Contains-here x xs = (0, omega arith, refl)

pub Contains-later : {X : Type 0} (x : X) (xs : List X) (y : X) → Contains xs y → Contains (x ∷ xs) y
Contains-later x xs y (k, inside, is) = (suc k, omega (arith, inside), is)

pub Contains-cases : {X : Type 0} (x : X) (xs : List X) (y : X) → Contains (x ∷ xs) y → (x ≡ y) ⊎ Contains xs y
Contains-cases x xs y (zero, inside, is) = inl is
Contains-cases x xs y (suc k, inside, is) = inr (k, omega (arith, inside), is)

pub Contains-none : {X : Type 0} (y : X) → Contains [] y → ⊥
Contains-none y (k, inside, is) = omega (arith, inside)

-- what holds of the places below i, and of those from i on
pub All-take_within : {X : Type 0} (P : X → Type 0) (xs : List X) (i : ℕ) → i ≤ length xs → AllWithin P xs 0 i → All P (take i xs)
All-take_within P xs i below h = λ k d inside.
    let len : length (take i xs) ≡ i = length-take-le i xs below in
    rw (get_or-take i xs k d (omega (arith, len, inside))) (h k d (omega arith) (omega (arith, len, inside)))

pub All-drop_within : {X : Type 0} (P : X → Type 0) (xs : List X) (i : ℕ) → i ≤ length xs → AllWithin P xs i (length xs) → All P (drop i xs)
All-drop_within P xs i below h = λ k d inside.
    let len : length (drop i xs) ≡ length xs - i = length-drop i xs in
    rw (get_or-drop i xs k d) (h (i + k) d (omega arith) (omega (arith, len, inside)))
