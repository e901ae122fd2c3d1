-- Distinct numbers, counted as the positions among which they are.
use Rattle.std.proofs.Common.{◌≡◌, ◌≢◌, ℕ, ◌+◌, ◌-◌, ◌<◌, ◌≤◌, ⊎_elim, true, false, nat_eq, List, filter, refl, sym, ap, ◌∙◌, get_or, arith}
use Rattle.std.specs.Cmp.{IsEquivalence}
use Rattle.std.specs.List.{All, AllPairs, IsDistinct, count_by, range_with_len}
use Rattle.std.specs.Set.{distinct_count, is_member}
use Rattle.std.proofs.Math.Bool.{and-false}
use Rattle.std.proofs.lemmas.Bool.{cases_Bool, eq-eqb, eqb-true}
use Rattle.std.proofs.lemmas.Bool.Decides.{Decides-eqb, nat_tests}
use Rattle.std.proofs.lemmas.List.Elements.{All-contains}
use Rattle.std.proofs.lemmas.List.FromFn.{get_or-range_with_len, length-range_with_len}
use Rattle.std.proofs.lemmas.List.Folds.{list_any_at}
use Rattle.std.proofs.lemmas.List.Kept.{AllPairs-filter}
use Rattle.std.proofs.lemmas.List.Sums.{length-filter}
use Rattle.std.proofs.lemmas.Map.Made.{IsDistinct-from_AllPairs, is_member-Decides, is_member-filter, length-from_keys}

pub numbers : IsEquivalence nat_eq
numbers = record {
  refl = λ x. eq-eqb x x refl;
  symm = λ x y. grind (arith, nat_tests);
  congr = λ x y z h. ap (λ n. nat_eq n z) (eqb-true x y h);
}

range_distinct : (a n : ℕ) → AllPairs (λ x y. x ≢ y) (range_with_len a n)
range_distinct a n i j d l u same =
    let short : j < n = omega (arith, length-range_with_len a n) in
    let at_i : get_or (range_with_len a n) i d ≡ a + i = get_or-range_with_len a n i d (omega arith) in
    let at_j : get_or (range_with_len a n) j d ≡ a + j = get_or-range_with_len a n j d short in
    omega arith

in_range : (a n q : ℕ) → a ≤ q → q < a + n → is_member nat_eq (range_with_len a n) q ≡ true
in_range a n q l u =
    let at : get_or (range_with_len a n) (q - a) 0 ≡ a + (q - a) = get_or-range_with_len a n (q - a) 0 (omega arith) in
    list_any_at (nat_eq q) (range_with_len a n) (q - a) 0 (omega (arith, length-range_with_len a n)) (eq-eqb q _ (omega arith))

-- where all numbers lie from a on, n positions far
pub distinct_count-by_positions : (xs : List ℕ) (a n : ℕ) → All (λ x. (a ≤ x) × (x < a + n)) xs → distinct_count nat_eq xs ≡ count_by (is_member nat_eq xs) (range_with_len a n)
distinct_count-by_positions xs a n within =
    let all = range_with_len a n in
    let among = filter (is_member nat_eq xs) all in
    let apart : IsDistinct nat_eq among = IsDistinct-from_AllPairs Decides-eqb among (AllPairs-filter (λ x y. x ≢ y) (is_member nat_eq xs) all (range_distinct a n)) in
    let same : (q : ℕ) → is_member nat_eq among q ≡ is_member nat_eq xs q = λ q.
    is_member-filter numbers (is_member nat_eq xs) q (λ x h. ap (is_member nat_eq xs) (eqb-true q x h)) all
    ∙ ⊎_elim
    (λ (found : is_member nat_eq xs q ≡ true).
    let bounds = All-contains (λ x. (a ≤ x) × (x < a + n)) xs q within ((is_member-Decides Decides-eqb xs q).0 found) in
    rw (in_range a n q bounds.0 bounds.1) refl)
    (λ (absent : is_member nat_eq xs q ≡ false). rw absent (and-false (is_member nat_eq all q)))
    (cases_Bool (is_member nat_eq xs q)) in
    sym (length-from_keys numbers among xs apart same) ∙ length-filter (is_member nat_eq xs) all
