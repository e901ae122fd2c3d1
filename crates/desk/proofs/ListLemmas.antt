-- Lists that are gone over one by one.
use Rattle.std.proofs.Common.{◌≡◌, ◌<◌, ◌+◌, ℕ, zero, suc, List, [], ◌∷◌, ◌++◌, get_or, length, map, take, refl, sym, ap, subst, ◌∙◌, arith}
use Rattle.std.specs.List.{All, AllZip}
use Rattle.std.proofs.lemmas.List.{map-append, take_more}
use Rattle.std.proofs.lemmas.List.Elements.{All-push}

-- what is read inside a list doesn't hang on the default
pub read-inside : {X : Type 0} (xs : List X) (i : ℕ) (a b : X) → i < length xs → get_or xs i a ≡ get_or xs i b
read-inside [] i a b inside = absurd (omega (arith, inside))
read-inside (x ∷ xs) zero a b inside = refl
read-inside (x ∷ xs) (suc i) a b inside = read-inside xs i a b (omega (arith, inside))

-- one item more
pub taken-more : {X : Type 0} (xs : List X) (i : ℕ) (x : X) → i < length xs → x ≡ get_or xs i x → take (i + 1) xs ≡ take i xs ++ x ∷ []
taken-more xs i x inside at = take_more xs i x inside ∙ ap (λ y. take i xs ++ y ∷ []) (sym at)

pub mapped-more : {A B : Type 0} (f : A → B) (xs : List A) (i : ℕ) (x : A) → i < length xs → x ≡ get_or xs i x → map f (take (i + 1) xs) ≡ map f (take i xs) ++ f x ∷ []
mapped-more f xs i x inside at = ap (map f) (taken-more xs i x inside at) ∙ map-append f (take i xs) (x ∷ [])

pub map-next : {A B : Type 0} (f : A → B) (xs : List A) (i : ℕ) (x : A) (found : List B) (y : B) → i < length xs → x ≡ get_or xs i x → found ≡ map f (take i xs) → y ≡ f x → found ++ y ∷ [] ≡ map f (take (i + 1) xs)
map-next f xs i x found y inside at so_far one = ap (λ ys. ys ++ y ∷ []) so_far ∙ ap (λ z. map f (take i xs) ++ z ∷ []) one ∙ sym (mapped-more f xs i x inside at)

pub each-next : {X : Type 0} (P : X → Type 0) (xs : List X) (i : ℕ) (x : X) → i < length xs → x ≡ get_or xs i x → All P (take i xs) → P x → All P (take (i + 1) xs)
each-next P xs i x inside at so_far one = subst (All P) (sym (taken-more xs i x inside at)) (All-push P (take i xs) x so_far one)

pub zip-push : {A B : Type 0} (R : A → B → Type 0) (xs : List A) (ys : List B) (x : A) (y : B) → AllZip R xs ys → R x y → AllZip R (xs ++ x ∷ []) (ys ++ y ∷ [])
zip-push R [] [] x y all r = (r, tt)
zip-push R [] (b ∷ ys) x y all r = absurd all
zip-push R (a ∷ xs) [] x y all r = absurd all
zip-push R (a ∷ xs) (b ∷ ys) x y all r = (all.0, zip-push R xs ys x y all.1 r)
