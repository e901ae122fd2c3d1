-- The terms of the filters and of the leaves of a query.
use Rattle.std.proofs.Common.{◌≡◌, ◌<◌, ◌≤◌, ℕ, ◌+◌, ◌++◌, List, [], ◌∷◌, length, map, take, get_or, sym, ap, ◌∙◌, append_assoc, append-nil}
use Rattle.std.specs.List.{flat_map}
use Rattle.std.proofs.lemmas.Grind.{flat_map-append}
use Rattle.std.proofs.lemmas.List.{map-append, take_all, take_more}

-- what the first items tell, in order, and what one more tells
module _ {A B : Type 0} (view : A → B) (tell : B → List (List ℕ)) (all : List A) (was : List (List ℕ)) where
  abbrev pub told : ℕ → List (List ℕ)
  told i = was ++ flat_map tell (map view (take i all))

  pub told-none : was ≡ told 0
  told-none = sym (append-nil was)

  pub told-more : (i : ℕ) (x : A) (old new : List (List ℕ)) → i < length all → x ≡ get_or all i x → old ≡ told i → new ≡ old ++ tell (view x) → new ≡ told (i + 1)
  told-more i x old new inside is before more =
      let front = take i all in
      let one : take (i + 1) all ≡ front ++ x ∷ [] = take_more all i x inside ∙ ap (λ (y : A). front ++ y ∷ []) (sym is) in
      let mapped : map view (take (i + 1) all) ≡ map view front ++ view x ∷ [] = ap (map view) one ∙ map-append view front (x ∷ []) in
      let flat : flat_map tell (map view (take (i + 1) all)) ≡ flat_map tell (map view front) ++ tell (view x) =
      ap (flat_map tell) mapped ∙ flat_map-append tell (map view front) (view x ∷ []) ∙ ap (λ (l : List (List ℕ)). flat_map tell (map view front) ++ l) (append-nil (tell (view x))) in
      more ∙ ap (λ (l : List (List ℕ)). l ++ tell (view x)) before ∙ append_assoc was (flat_map tell (map view front)) (tell (view x)) ∙ ap (λ (l : List (List ℕ)). was ++ l) (sym flat)

  pub told-end : (i : ℕ) (now : List (List ℕ)) → length all ≤ i → now ≡ told i → now ≡ was ++ flat_map tell (map view all)
  told-end i now past is = is ∙ ap (λ (l : List A). was ++ flat_map tell (map view l)) (take_all i all past)
