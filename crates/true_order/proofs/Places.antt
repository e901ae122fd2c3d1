-- What stands at a place of a list.
use Rattle.std.proofs.Common.{ℕ, zero, suc, ◌≡◌, ◌<◌, ◌+◌, arith, sym, ◌∙◌, ap, refl, subst, List, [], ◌∷◌, ◌++◌, length, map, Option, None, Some, zero-add}
use Rattle.std.proofs.lemmas.Option.{slice_get-map, slice_get_within, slice_get_read, get_or_from_slice_get}
use Rattle.std.specs.List.{All, AllPairs, Contains}
use Rattle.std.specs.Option.{option_map}
use Rattle.std.specs.Prelude.{slice_get, slice_index_or}

-- a place in the front
pub get_left : {X : Type 0} (xs ys : List X) (i : ℕ) (x : X) → slice_get xs i ≡ Some x
    → slice_get (xs ++ ys) i ≡ Some x
get_left [] ys i x e = cc
get_left (y ∷ xs) ys zero x e = e
get_left (y ∷ xs) ys (suc i) x e = get_left xs ys i x e

-- a place behind it
pub get_right : {X : Type 0} (xs ys : List X) (i : ℕ) → slice_get (xs ++ ys) (length xs + i) ≡ slice_get ys i
get_right [] ys i = ap (slice_get ys) (zero-add i)
get_right (x ∷ xs) ys i =
    let e : length (x ∷ xs) + i ≡ suc (length xs + i) = omega arith in
    ap (slice_get (x ∷ (xs ++ ys))) e ∙ get_right xs ys i

-- what holds of each
pub all_at : {X : Type 0} (P : X → Type 0) (xs : List X) (i : ℕ) (x : X) → All P xs → slice_get xs i ≡ Some x → P x
all_at P xs i x h e = subst P (get_or_from_slice_get xs i x x e) (h i x (slice_get_within xs i x e))

-- what holds of each two
pub pair_at : {X : Type 0} (R : X → X → Type 0) (xs : List X) (i j : ℕ) (x y : X) → AllPairs R xs
    → slice_get xs i ≡ Some x → slice_get xs j ≡ Some y → i < j → R x y
pair_at {X} R xs i j x y h e f l =
    let both : R (slice_index_or xs i x) (slice_index_or xs j x) = h i j x l (slice_get_within xs j y f) in
    let last = subst (λ (b : X). R (slice_index_or xs i x) b) (get_or_from_slice_get xs j y x f) both in
    subst (λ (a : X). R a y) (get_or_from_slice_get xs i x x e) last

mapped : {X Y : Type 0} (f : X → Y) (o : Option X) (y : Y) → option_map f o ≡ Some y
    → (x : X) × (o ≡ Some x) × (f x ≡ y)
mapped f None y e = cc
mapped f (Some x) y e = (x, refl, cc)

-- what a list of values has is the value of something
pub mapped_at : {X Y : Type 0} (f : X → Y) (xs : List X) (y : Y) → Contains (map f xs) y
    → (i : ℕ) × (x : X) × (slice_get xs i ≡ Some x) × (f x ≡ y)
mapped_at f xs y h =
    let ys = map f xs in
    let at : slice_get ys h.0 ≡ Some y = slice_get_read ys (length ys) h.0 y refl h.1 (sym h.2) in
    let found = mapped f (slice_get xs h.0) y (sym (slice_get-map f xs h.0) ∙ at) in
    (h.0, found.0, found.1, found.2)
