use Rattle.std.proofs.Common.{rules, ◌≡◌, ◌<◌, ◌≤◌, ℕ, Bool, true, false, not, List, [], ◌∷◌, ◌++◌, map, get_or, refl, subst, sym, ap}
use Rattle.std.specs.Cmp.{IsTotalOrder}
use Rattle.std.specs.List.{All, filter}
use Rattle.std.specs.List.Sorted.{IsPermutation}
use Rattle.std.specs.Ordering.{is_lt}
use Rattle.std.proofs.lemmas.Bool.{lt-ltb, both_ways}
use Rattle.std.proofs.lemmas.Cmp.{nat_cmp_total, then_total, on_total}
use Rattle.std.proofs.lemmas.List.Elements.{filter_passes}
use Rattle.std.proofs.lemmas.List.Sorted.{IsPermutation-filter_both, All-permutation}
use Rattle.first_few.specs.First.{AreFirst}
use Rattle.bounded_keys.specs.Bounds.{Bounded, Encloses, IsBeaten, by_key, is_beaten}
use Rattle.bounded_keys.proofs.Counts.{All-append_left}
use Rattle.bounded_keys.proofs.Beaten.{beaten_by_kth, first_of_rest, first_not_beaten}
use Rattle.bounded_keys.proofs.laws.keys_of_first.Goals as goal

total : IsTotalOrder by_key
total = then_total (on_total (λ (x : Bounded). x.key) nat_cmp_total) (on_total (λ (x : Bounded). x.tie) nat_cmp_total)

lt_key : (a b : Bounded) → a.key < b.key → is_lt (by_key a b) ≡ true
lt_key a b h = search (rules, lt-ltb)

map_same : (xs : List Bounded) → map (λ (x : Bounded). x) xs ≡ xs
map_same [] = refl
map_same (x ∷ xs) = ap (λ ys. x ∷ ys) (map_same xs)

not_first : (k : ℕ) (all shown : List Bounded) → Encloses all → AreFirst by_key k all shown → All (λ x. IsBeaten k all x → ⊥) shown
not_first k all shown enclosed f i d within late =
    let inside = All-append_left (λ (x : Bounded). (x.lo ≤ x.key) × (x.key ≤ x.up)) shown f.others
    (All-permutation (λ (x : Bounded). (x.lo ≤ x.key) × (x.key ≤ x.up)) all _ f.split enclosed) in
    both_ways (is_beaten (λ (x : Bounded). x.up) k all (get_or shown i d).lo)
    (first_not_beaten (λ (x : Bounded). x.lo) (λ x. x.up) (λ x. x.key) by_key total (λ x. x) lt_key k all shown enclosed
    (subst (λ xs. AreFirst by_key k xs shown) (sym (map_same all)) f) (get_or shown i d) i within
    (search rules) (inside i d within).0)
    late

same : (k : ℕ) (all taken passed shown : List Bounded) → Encloses all → IsPermutation all (taken ++ passed) → All (IsBeaten k all) passed
    → AreFirst by_key k taken shown → AreFirst by_key k all shown
same k all taken passed shown enclosed split late f =
    subst (λ xs. AreFirst by_key k xs shown) (map_same all)
    (first_of_rest (λ (x : Bounded). x.lo) (λ x. x.up) (λ x. x.key) by_key total (λ x. x) lt_key k all taken passed shown enclosed split late
    (subst (λ xs. AreFirst by_key k xs shown) (sym (map_same taken)) f))

pub returns : goal.returns
returns c = record {
  kth = beaten_by_kth (λ (x : Bounded). x.up);
  not_first = not_first;
  same = same;
  rest = λ k all shown enclosed f.
      let late : Bounded → Bool = λ x. is_beaten (λ (y : Bounded). y.up) k all x.lo in
      same k all (filter (λ x. not (late x)) all) (filter late all) shown enclosed
      (IsPermutation-filter_both (λ x. not (late x)) late (λ x. sym (not_not (late x))) all)
      (filter_passes late all) f;
}
  where
    not_not : (b : Bool) → not (not b) ≡ b
    not_not true = refl
    not_not false = refl
