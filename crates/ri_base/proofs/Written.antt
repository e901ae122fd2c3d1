-- what a loop writes of a list
use Rattle.std.proofs.Common.{◌≡◌, ℕ, zero, suc, ◌+◌, ◌<◌, List, [], ◌∷◌, ◌++◌, length, drop, get_or, refl, sym, ap, ◌∙◌, append_assoc, arith}
use Rattle.std.specs.List.{flat_map}
use Rattle.std.proofs.lemmas.List.Concat.{flat_map-cons}

drop_item : {A : Type 0} (xs : List A) (i : ℕ) (d : A) → i < length xs → drop i xs ≡ get_or xs i d ∷ drop (i + 1) xs
drop_item [] i d lt = absurd (omega arith)
drop_item (x ∷ xs) zero d lt = refl
drop_item (x ∷ xs) (suc i) d lt =
    let k : suc i + 1 ≡ suc (i + 1) = omega arith in
    drop_item xs i d (omega arith) ∙ ap (λ n. get_or xs i d ∷ drop n (x ∷ xs)) (sym k)

pub one_written : {A : Type 0} (f : A → List ℕ) (xs : List A) (i : ℕ) (x : A) (out more total : List ℕ) → i < length xs → x ≡ get_or xs i x → more ≡ out ++ f x
    → out ++ flat_map f (drop i xs) ≡ total → more ++ flat_map f (drop (i + 1) xs) ≡ total
one_written f xs i x out more total lt is h so_far =
    let step : flat_map f (drop i xs) ≡ f x ++ flat_map f (drop (i + 1) xs) = ap (flat_map f) (drop_item xs i x lt) ∙ flat_map-cons f (get_or xs i x) (drop (i + 1) xs) ∙ ap (λ y. f y ++ flat_map f (drop (i + 1) xs)) (sym is) in
    ap (λ l. l ++ flat_map f (drop (i + 1) xs)) h ∙ append_assoc out (f x) (flat_map f (drop (i + 1) xs)) ∙ ap (λ l. out ++ l) (sym step) ∙ so_far
