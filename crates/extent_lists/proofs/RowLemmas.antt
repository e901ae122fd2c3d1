-- places in lists of extents, their begins, and the lesser of two ends
use Rattle.std.proofs.Common.{◌≡◌, ℕ, ◌+◌, ◌-◌, ◌<◌, ◌≤◌, ◌⊎◌, inl, inr, ⊎_elim, Bool, true, false, min, nat_le, Option, Some, None, zero, suc, List, [], ◌∷◌, length, drop, get_or, refl, ap, arith}
use Rattle.std.specs.Bool.{⊤}
use Rattle.std.specs.List.Sorted.{IsNonDecreasingBy}
use Rattle.std.proofs.lemmas.List.{drop_more}
use Rattle.std.proofs.lemmas.Bool.Decides.{nat_tests}
use Rattle.ri_base.specs.Pair.{Pair}
use Rattle.extent_lists.specs.Rows.{Has, IsAscending, IsBeforeAll, begin_at, end_at, least_with}

-- ---- places

pub drop_before : {X : Type 0} (xs : List X) (i : ℕ) (x : X) → 0 < i → i ≤ length xs → x ≡ get_or xs (i - 1) x → drop (i - 1) xs ≡ x ∷ drop i xs
drop_before xs i x some within is =
    let h = drop_more xs (i - 1) x (omega arith) in
    let e : (i - 1) + 1 ≡ i = omega arith in
    cc

-- a place in a list for each extent that it has, and the other way round
pub Has-at : (xs : List Pair) (b e : ℕ) → Has xs b e → (k : ℕ) × (k < length xs) × (begin_at xs k ≡ b) × (end_at xs k ≡ e)
Has-at [] b e h = absurd h
Has-at (x ∷ xs) b e h = ⊎_elim
    (λ k. (zero, omega arith, k.0, k.1))
    (λ k. let w = Has-at xs b e k in (suc w.0, omega (arith, w.1), w.2, w.3))
    h

pub Has-from : (xs : List Pair) (k : ℕ) → k < length xs → Has xs (begin_at xs k) (end_at xs k)
Has-from [] k inside = absurd (omega (arith, inside))
Has-from (x ∷ xs) zero inside = inl (refl, refl)
Has-from (x ∷ xs) (suc k) inside = inr (Has-from xs k (omega (arith, inside)))

-- ---- begins

abbrev pub BeginsFrom : ℕ → List Pair → Type 0
BeginsFrom b [] = ⊤
BeginsFrom b (y ∷ ys) = (b ≤ y.begin) × BeginsFrom b ys

pub BeginsFrom-ascending : (x : Pair) (xs : List Pair) → IsBeforeAll x xs → BeginsFrom x.begin xs
BeginsFrom-ascending x [] p = tt
BeginsFrom-ascending x (y ∷ ys) p = (grind arith, BeginsFrom-ascending x ys p.1)

from_at : (b : ℕ) (xs : List Pair) (k : ℕ) (d : Pair) → BeginsFrom b xs → k < length xs → b ≤ (get_or xs k d).begin
from_at b [] k d h inside = absurd (omega (arith, inside))
from_at b (x ∷ xs) zero d h inside = h.0
from_at b (x ∷ xs) (suc k) d h inside = from_at b xs k d h.1 (omega (arith, inside))

-- the begins of extents in order don't fall
pub begins_ascend : (xs : List Pair) → IsAscending xs → IsNonDecreasingBy (λ (x : Pair). x.begin) xs
begins_ascend [] up i j d lower inside = absurd (omega (arith, inside))
begins_ascend (x ∷ xs) up zero zero d lower inside = omega arith
begins_ascend (x ∷ xs) up zero (suc j) d lower inside = from_at x.begin xs j d (BeginsFrom-ascending x xs up.0) (omega (arith, inside))
begins_ascend (x ∷ xs) up (suc i) zero d lower inside = absurd (omega (arith, lower))
begins_ascend (x ∷ xs) up (suc i) (suc j) d lower inside = begins_ascend xs up.1 i j d (omega (arith, lower)) (omega (arith, inside))

-- ---- ends

never : {m : ℕ} → None ≡ Some m → ⊥
never h = cc

same_some : (p q : ℕ) → Some p ≡ Some q → p ≡ q
same_some p q h = cc

pub least_with-some : (end : ℕ) (found : Option ℕ) → (m : ℕ) × (least_with end found ≡ Some m) × (m ≤ end)
least_with-some end None = (end, refl, omega arith)
least_with-some end (Some other) = (min end other, refl, omega arith)

pub least_with-old : (end : ℕ) (found : Option ℕ) (v : ℕ) → found ≡ Some v → (m : ℕ) × (least_with end found ≡ Some m) × (m ≤ v)
least_with-old end None v h = absurd (never h)
least_with-old end (Some other) v h = let s : other ≡ v = same_some other v h in (min end other, refl, omega arith)

pub least_with-is : (end : ℕ) (found : Option ℕ) (m : ℕ) → least_with end found ≡ Some m → (end ≡ m) ⊎ (found ≡ Some m)
least_with-is end None m h = inl (same_some end m h)
least_with-is end (Some other) m h = by (nat_le end other) refl
  where
    by : (v : Bool) → nat_le end other ≡ v → (end ≡ m) ⊎ (Some other ≡ Some m)
    by true j = let s : min end other ≡ m = same_some (min end other) m h in let e : end ≡ m = grind (arith, nat_tests) in inl e
    by false j = let s : min end other ≡ m = same_some (min end other) m h in let e : other ≡ m = grind (arith, nat_tests) in inr (ap (λ (k : ℕ). Some k) e)
