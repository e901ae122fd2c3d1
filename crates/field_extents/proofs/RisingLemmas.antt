-- Extents that rise: those inside a window stand side by side, and each has a begin of its own.
use Rattle.std.proofs.Common.{◌≡◌, ◌≢◌, ◌⊎◌, ⊎_elim, ℕ, ◌+◌, ◌-◌, ◌<◌, ◌≤◌, Bool, true, false, ◌&&◌, nat_eq, nat_le, nat_lt, List, [], ◌∷◌, length, take, drop, get_or, filter, refl, sym, ap, ◌∙◌, length-drop, length-take, arith}
use Rattle.std.specs.List.{All, AllAdjacentBelow, AllPairs, IsAllAdjacentAnswer, prefix_len}
use Rattle.std.specs.List.Sorted.{IsNonDecreasingBy, IsPartitionPoint}
use Rattle.std.specs.Set.{distinct_count}
use Rattle.std.proofs.lemmas.Bool.{and_parts, and_right, cases_eq, lt-leb, le-leb, leb-false, leb-true, ltb-true}
use Rattle.std.proofs.lemmas.Bool.Decides.{Decides-eqb, nat_tests}
use Rattle.std.proofs.lemmas.List.{get_or-drop, get_or-map, get_or-take, length-map}
use Rattle.std.proofs.lemmas.List.Elements.{All-head, All-tail}
use Rattle.std.proofs.lemmas.List.FromFn.{length-range_with_len}
use Rattle.std.proofs.lemmas.List.Sorted.{IsNonDecreasingBy-from_all_adjacent}
use Rattle.std.proofs.lemmas.List.Sums.{count_by-le-length, prefix_len-le-length, prefix_len_passes, prefix_len_stops}
use Rattle.std.proofs.lemmas.Map.Made.{IsDistinct-from_AllPairs, distinct_count-from_IsDistinct}
use Rattle.ri_base.specs.Pair.{Pair}
use Rattle.field_extents.specs.Extents.{begin_count, begins, is_inside, positions}
use Rattle.field_extents.specs.Passed.{Rises}
use Rattle.field_extents.proofs.BeginsLemmas.{begin_count-by_positions, some_begins_at}
use Rattle.field_extents.proofs.Distinct.{numbers}
use Rattle.field_extents.proofs.Prefixes.{fails_behind_first, filter_front}

abbrev pub ends_by : ℕ → Pair → Bool
ends_by position x = nat_le x.end position

filter_all : {X : Type 0} (p : X → Bool) (xs : List X) → All (λ x. p x ≡ true) xs → filter p xs ≡ xs
filter_all p [] h = refl
filter_all p (x ∷ xs) h = rw (All-head (λ x. p x ≡ true) x xs h) (ap (λ ys. x ∷ ys) (filter_all p xs (All-tail (λ x. p x ≡ true) x xs h)))

-- what holds of each two of a list holds of those at its front and behind it
pub pairs_front : (R : Pair → Pair → Type 0) (xs : List Pair) (n : ℕ) → AllPairs R xs → AllPairs R (take n xs)
pairs_front R xs n all i j d l u =
    let long : length (take n xs) ≤ n = omega (arith, length-take n xs) in
    rw (get_or-take n xs i d (omega arith), get_or-take n xs j d (omega arith)) (all i j d l (omega (arith, length-take n xs)))

pub pairs_behind : (R : Pair → Pair → Type 0) (xs : List Pair) (n : ℕ) → AllPairs R xs → AllPairs R (drop n xs)
pairs_behind R xs n all i j d l u =
    rw (get_or-drop n xs i d, get_or-drop n xs j d) (all (n + i) (n + j) d (omega arith) (omega (arith, length-drop n xs)))

-- extents that rise have as many begins as there are
begins_distinct : (xs : List Pair) → AllPairs Rises xs → distinct_count nat_eq (begins xs) ≡ length xs
begins_distinct xs rises =
    let apart : AllPairs (λ x y. x ≢ y) (begins xs) = λ i j d l u same.
    let e : Pair = record { begin = d; end = d } in
    let long : length (begins xs) ≡ length xs = length-map xs (λ (x : Pair). x.begin) in
    let up : Rises (get_or xs i e) (get_or xs j e) = rises i j e l (omega arith) in
    let here : get_or (begins xs) i d ≡ (get_or xs i e).begin = get_or-map (λ (x : Pair). x.begin) xs i e d (omega arith) in
    let there : get_or (begins xs) j d ≡ (get_or xs j e).begin = get_or-map (λ (x : Pair). x.begin) xs j e d (omega arith) in
    omega (arith, up.0) in
    distinct_count-from_IsDistinct numbers (begins xs) (IsDistinct-from_AllPairs Decides-eqb (begins xs) apart) ∙ length-map xs (λ (x : Pair). x.begin)

-- where none begins before the window, those inside it are those that end by its end
pub begin_count-rising : (xs : List Pair) (window : Pair) (m : ℕ) → AllPairs Rises xs → All (λ x. window.begin ≤ x.begin) xs → m ≡ prefix_len (ends_by window.end) xs → m ≡ begin_count xs window
begin_count-rising xs window m up ahead is =
    let front : List Pair = take m xs in
    let few : m ≤ length xs = rw is (prefix_len-le-length (ends_by window.end) xs) in
    let stays : AllPairs (λ x y. ends_by window.end x ≡ false → ends_by window.end y ≡ false) xs = λ i j d l u fails.
    let rises : Rises (get_or xs i d) (get_or xs j d) = up i j d l u in
    lt-leb _ _ (omega (arith, leb-false _ _ fails, rises.1)) in
    let late : All (λ x. ends_by window.end x ≡ false) (drop m xs) = rw is (fails_behind_first (ends_by window.end) xs stays) in
    let behind : All (λ x. is_inside window x ≡ false) (drop m xs) = λ k d l. and_right _ _ (late k d l) in
    let pass : All (λ x. is_inside window x ≡ true) front = λ k d l.
    let short : k < m = omega (arith, length-take m xs) in
    let ended : ends_by window.end (get_or xs k d) ≡ true = prefix_len_passes (ends_by window.end) xs k d (omega (arith, is)) in
    let begun : window.begin ≤ (get_or xs k d).begin = ahead k d (omega arith) in
    rw (get_or-take m xs k d short, le-leb _ _ begun, ended) refl in
    sym (
    ap (λ ys. distinct_count nat_eq (begins ys)) (sym (filter_front (is_inside window) xs m behind) ∙ filter_all (is_inside window) front pass)
    ∙ begins_distinct front (pairs_front Rises xs m up)
    ∙ (length-take m xs ∙ omega arith)
    )

-- no more begins in a window than it has positions
pub begin_count-few : (xs : List Pair) (window : Pair) → All (λ x. x.begin < x.end) xs → begin_count xs window ≤ window.end - window.begin
begin_count-few xs window some =
    omega (arith, begin_count-by_positions xs window some, count_by-le-length (some_begins_at xs window) (positions window), length-range_with_len window.begin (window.end - window.begin))

-- extents of which each rises from the one before
rising_from_neighbours : (xs : List Pair) → AllAdjacentBelow Rises xs (length xs) → AllPairs Rises xs
rising_from_neighbours xs near i j d l u =
    let begins_up = IsNonDecreasingBy-from_all_adjacent (λ (x : Pair). x.begin) xs (λ k e m.
    let up : Rises (get_or xs k e) (get_or xs (k + 1) e) = near k e m in
    omega (arith, up.0)) in
    let ends_up = IsNonDecreasingBy-from_all_adjacent (λ (x : Pair). x.end) xs (λ k e m. (near k e m).1) in
    let first : Rises (get_or xs i d) (get_or xs (i + 1) d) = near i d (omega arith) in
    let later : (get_or xs (i + 1) d).begin ≤ (get_or xs j d).begin = begins_up (i + 1) j d (omega arith) u in
    (omega (arith, first.0, later), ends_up i j d (omega arith) u)

abbrev pub rises : Pair → Pair → Bool
rises x y = nat_lt x.begin y.begin && nat_le x.end y.end

pub rising_answer : (xs : List Pair) (r : Bool) → IsAllAdjacentAnswer (λ x y b. b ≡ rises x y) xs r → r ≡ true → AllPairs Rises xs
rising_answer xs true near is = rising_from_neighbours xs (λ k d u.
    let parts = and_parts (nat_lt (get_or xs k d).begin (get_or xs (k + 1) d).begin) (nat_le (get_or xs k d).end (get_or xs (k + 1) d).end) (sym (near k d u)) in
    (ltb-true _ _ parts.0, leb-true _ _ parts.1))
rising_answer xs false near is = absurd cc

pub ends_do_not_fall : (xs : List Pair) → AllPairs Rises xs → IsNonDecreasingBy (λ x. x.end) xs
ends_do_not_fall xs up i j d l u = ⊎_elim
    (λ (same : i ≡ j). rw same (omega arith))
    (λ (other : i ≡ j → ⊥). (up i j d (omega arith) u).1)
    (cases_eq i j)

pub point_is_prefix : (p : Pair → Bool) (xs : List Pair) (k : ℕ) → k ≤ length xs → IsPartitionPoint (λ x. p x ≡ true) (λ x. p x ≡ false) xs k → k ≡ prefix_len p xs
point_is_prefix p xs k few point =
    let d : Pair = record { begin = 0; end = 0 } in
    let n : ℕ = prefix_len p xs in
    let most : n ≤ length xs = prefix_len-le-length p xs in
    ⊎_elim
    (λ (less : k < n). absurd (clash (p (get_or xs k d)) (prefix_len_passes p xs k d less) (point.1 k d (omega arith) (omega arith))))
    (λ (more : k < n → ⊥). ⊎_elim
    (λ (greater : n < k). absurd (clash (p (get_or xs n d)) (point.0 n d (omega arith) greater) (prefix_len_stops p xs d (omega arith))))
    (λ (not_greater : n < k → ⊥). omega arith)
    (cases_less n k))
    (cases_less k n)
  where
    clash : (b : Bool) → b ≡ true → b ≡ false → ⊥
    clash b passes fails = cc

    cases_less : (a b : ℕ) → (a < b) ⊎ (a < b → ⊥)
    cases_less a b = grind (arith, nat_tests)
