-- What restrictions, covers and counts of begins keep.
use Rattle.std.proofs.Common.{◌≡◌, ℕ, ◌-◌, ◌<◌, ◌≤◌, ⊎_elim, Bool, true, false, ◌&&◌, nat_le, nat_eq, List, filter, cond, get_or, subst, arith}
use Rattle.std.specs.List.{All, count_by}
use Rattle.std.specs.Str.{bytes_eq}
use Rattle.std.proofs.lemmas.Bool.{and_from, and_parts, cases_Bool, eqb-true, le-leb, leb-true, lt-ltb}
use Rattle.std.proofs.lemmas.List.Elements.{filter_passes}
use Rattle.std.proofs.lemmas.List.Folds.{Any-from_list_any, list_any-from_Any}
use Rattle.std.proofs.lemmas.List.FromFn.{length-range_with_len}
use Rattle.std.proofs.lemmas.List.Kept.{AllPairs-filter}
use Rattle.std.proofs.lemmas.List.Sums.{count_by-le-length, sum_by-le-sum_by}
use Rattle.ri_base.specs.Documents.{Field}
use Rattle.ri_base.specs.Pair.{Pair}
use Rattle.field_extents.specs.Extents.{AreInOrder, IsNoLater, begin_count, is_inside, positions}
use Rattle.field_extents.specs.Fields.{covered_count, covers, is_covered, lies_in, lies_in_some}
use Rattle.field_extents.proofs.BeginsLemmas.{begin_count-by_positions, begins_at, some_begins_at}

-- extents in order stay in order when some are left out, as those that lie in no field of a name
pub AreInOrder-filter : (p : Pair → Bool) (xs : List Pair) → AreInOrder xs → AreInOrder (filter p xs)
AreInOrder-filter p xs in_order = AllPairs-filter IsNoLater p xs in_order

-- no more positions pass than the window has
count_by-positions-le : (p : ℕ → Bool) (window : Pair) → count_by p (positions window) ≤ window.end - window.begin
count_by-positions-le p window = omega (arith, count_by-le-length p (positions window), length-range_with_len window.begin (window.end - window.begin))

-- no more positions are covered than the window has
pub covered_count-le : (fields : List Field) (name : List ℕ) (window : Pair) → covered_count fields name window ≤ window.end - window.begin
covered_count-le fields name window = count_by-positions-le (is_covered fields name) window

-- no more begins than positions
pub begin_count-le : (xs : List Pair) (window : Pair) → All (λ x. x.begin < x.end) xs → begin_count xs window ≤ window.end - window.begin
begin_count-le xs window some = omega (arith, begin_count-by_positions xs window some, count_by-positions-le (some_begins_at xs window) window)

-- where a position passes one test it passes the other
count_by-le-count_by : (p q : ℕ → Bool) (xs : List ℕ) → ((i : ℕ) → p i ≡ true → q i ≡ true) → count_by p xs ≤ count_by q xs
count_by-le-count_by p q xs implied = sum_by-le-sum_by (λ i. cond (p i) 1 0) (λ i. cond (q i) 1 0) xs (λ i. ⊎_elim
    (λ (passes : p i ≡ true). rw (passes, implied i passes) (omega arith))
    (λ (fails : p i ≡ false). rw fails (omega arith))
    (cases_Bool (p i)))

-- a position at which an extent begins that lies in a field is covered by that field
covers_begin : (name : List ℕ) (i : ℕ) (x : Pair) (window : Pair) (f : Field) → x.begin < x.end → begins_at window i x ≡ true → lies_in name x f ≡ true → covers name i f ≡ true
covers_begin name i x window f some begins lies =
    let at : i ≡ x.begin = eqb-true i x.begin (and_parts (is_inside window x) (nat_eq i x.begin) begins).1 in
    let ends = and_parts (bytes_eq f.name name && nat_le f.begin x.begin) (nat_le x.end f.end) lies in
    let named = and_parts (bytes_eq f.name name) (nat_le f.begin x.begin) ends.0 in
    let low : f.begin ≤ x.begin = leb-true _ _ named.1 in
    let high : x.end ≤ f.end = leb-true _ _ ends.1 in
    rw named.0 (and_from _ _ (le-leb f.begin i (omega arith)) (lt-ltb i f.end (omega arith)))

-- extents that lie in fields of a name have no more begins in a window than the fields cover positions of it
pub begin_count-le-covered_count : (xs : List Pair) (fields : List Field) (name : List ℕ) (window : Pair) → All (λ x. x.begin < x.end) (filter (lies_in_some fields name) xs) → begin_count (filter (lies_in_some fields name) xs) window ≤ covered_count fields name window
begin_count-le-covered_count xs fields name window some =
    let kept = filter (lies_in_some fields name) xs in
    let implied : (i : ℕ) → some_begins_at kept window i ≡ true → is_covered fields name i ≡ true = λ i h.
    let found = Any-from_list_any (begins_at window i) kept h in
    let k = found.0 in let x = found.1 in
    let is : get_or kept k x ≡ x = found.3 in
    let has_some : x.begin < x.end = subst (λ (y : Pair). y.begin < y.end) is (some k x found.2) in
    let lies : lies_in_some fields name x ≡ true = subst (λ (y : Pair). lies_in_some fields name y ≡ true) is (filter_passes (lies_in_some fields name) xs k x found.2) in
    let holder = Any-from_list_any (lies_in name x) fields lies in
    list_any-from_Any (covers name i) fields (holder.0, holder.1, holder.2, holder.3, covers_begin name i x window holder.1 has_some found.4 holder.4) in
    omega (arith, begin_count-by_positions kept window some, count_by-le-count_by (some_begins_at kept window) (is_covered fields name) (positions window) implied)
