-- The elements of a list before the first that fails a test, from some place on.
use Rattle.std.proofs.Common.{◌≡◌, ℕ, ◌+◌, ◌<◌, ◌≤◌, ⊎_elim, Bool, true, false, List, [], ◌∷◌, ◌++◌, length, take, drop, get_or, filter, refl, sym, ap, ◌∙◌, append-nil, length-drop, length-take, add-zero, subst, arith}
use Rattle.std.specs.List.{All, AllPairs, prefix_len}
use Rattle.std.proofs.Math.Seq.{take-add}
use Rattle.std.proofs.lemmas.Bool.{cases_eq}
use Rattle.std.proofs.lemmas.List.{get_or-drop, get_or-take, take-append-drop}
use Rattle.std.proofs.lemmas.List.Elements.{All-append, All-head, All-tail, filter-append}
use Rattle.std.proofs.lemmas.List.Sums.{prefix_len-le-length, prefix_len_passes, prefix_len_stops}

-- where a test fails from some element on, it fails at all behind those that pass it
pub fails_behind : {X : Type 0} (p : X → Bool) (xs : List X) (n : ℕ) → AllPairs (λ x y. p x ≡ false → p y ≡ false) xs → All (λ x. p x ≡ false) (drop (n + prefix_len p (drop n xs)) xs)
fails_behind p xs n stays k d l =
    let more = prefix_len p (drop n xs) in
    let bound : (n + more) + k < length xs = omega (arith, length-drop (n + more) xs, l) in
    let left : more < length (drop n xs) = omega (arith, length-drop n xs) in
    let stops : p (get_or (drop n xs) more d) ≡ false = prefix_len_stops p (drop n xs) d left in
    let first : p (get_or xs (n + more) d) ≡ false = rw (get_or-drop n xs more d) at stops in
    let there : get_or (drop (n + more) xs) k d ≡ get_or xs ((n + more) + k) d = get_or-drop (n + more) xs k d in
    rw there (⊎_elim
    (λ (same : k ≡ 0). rw (same, add-zero) first)
    (λ (other : k ≡ 0 → ⊥). stays (n + more) ((n + more) + k) d (omega arith) bound first)
    (cases_eq k 0))

-- where it fails from the first that fails it on
pub fails_behind_first : {X : Type 0} (p : X → Bool) (xs : List X) → AllPairs (λ x y. p x ≡ false → p y ≡ false) xs → All (λ x. p x ≡ false) (drop (prefix_len p xs) xs)
fails_behind_first {X} p xs stays =
    subst (λ (n : ℕ). All (λ x. p x ≡ false) (drop n xs)) (zero_add (prefix_len p (drop 0 xs)) ∙ ap (prefix_len p) (drop_none xs)) (fails_behind p xs 0 stays)
  where
    zero_add : (n : ℕ) → 0 + n ≡ n
    zero_add n = omega arith

    drop_none : (ys : List X) → drop 0 ys ≡ ys
    drop_none [] = refl
    drop_none (y ∷ ys) = refl

module _ {X : Type 0} (p : X → Bool) (xs : List X) (n more : ℕ) (is : more ≡ prefix_len p (drop n xs)) where
  -- what holds of the first and of those that pass
  pub passes_front : (P : X → Type 0) → ((x : X) → p x ≡ true → P x) → All P (take n xs) → All P (take (n + more) xs)
  passes_front P implied front = rw (take-add n more xs) (All-append P (take n xs) (take more (drop n xs)) front (λ i e m.
      let bound : i < more = omega (arith, length-take more (drop n xs), m) in
      let there : get_or (take more (drop n xs)) i e ≡ get_or (drop n xs) i e = get_or-take more (drop n xs) i e bound in
      rw there (implied _ (prefix_len_passes p (drop n xs) i e (omega (arith, is))))))

  pub within_front : n ≤ length xs → n + more ≤ length xs
  within_front within = omega (arith, is, prefix_len-le-length p (drop n xs), length-drop n xs)

filter_none : {X : Type 0} (p : X → Bool) (xs : List X) → All (λ x. p x ≡ false) xs → filter p xs ≡ []
filter_none p [] h = refl
filter_none p (x ∷ xs) h = rw (All-head (λ x. p x ≡ false) x xs h) (filter_none p xs (All-tail (λ x. p x ≡ false) x xs h))

-- of two parts only the second one has elements that pass
pub filter_ahead : {X : Type 0} (p : X → Bool) (xs : List X) (n : ℕ) → All (λ x. p x ≡ false) (take n xs) → filter p (drop n xs) ≡ filter p xs
filter_ahead p xs n front =
    let parts : filter p (take n xs ++ drop n xs) ≡ filter p (take n xs) ++ filter p (drop n xs) = filter-append p (take n xs) (drop n xs) in
    sym (ap (filter p) (sym (take-append-drop n xs)) ∙ parts ∙ ap (λ ys. ys ++ filter p (drop n xs)) (filter_none p (take n xs) front))

-- only the first one
pub filter_front : {X : Type 0} (p : X → Bool) (xs : List X) (n : ℕ) → All (λ x. p x ≡ false) (drop n xs) → filter p (take n xs) ≡ filter p xs
filter_front p xs n behind =
    let parts : filter p (take n xs ++ drop n xs) ≡ filter p (take n xs) ++ filter p (drop n xs) = filter-append p (take n xs) (drop n xs) in
    sym (ap (filter p) (sym (take-append-drop n xs)) ∙ parts ∙ rw (filter_none p (drop n xs) behind) (append-nil (filter p (take n xs))))
