-- The fields that are passed cover a window up to the greatest of their ends.
use Rattle.std.proofs.Common.{◌≡◌, ℕ, ◌+◌, ◌-◌, ◌<◌, ◌≤◌, Bool, false, ◌||◌, ◌&&◌, nat_le, nat_lt, max, List, [], ◌∷◌, ◌++◌, take, drop, get_or, refl, sym, ap, ◌∙◌, arith}
use Rattle.std.specs.List.{All, AllPairs, count_by, prefix_len, range_with_len}
use Rattle.std.specs.Str.{bytes_eq}
use Rattle.std.proofs.Math.Bool.{or-false}
use Rattle.std.proofs.lemmas.Bool.{and_left, and_right, le-ltb, lt-ltb, lt-leb}
use Rattle.std.proofs.lemmas.Bool.Decides.{nat_tests}
use Rattle.std.proofs.lemmas.List.{take-append-drop}
use Rattle.std.proofs.lemmas.List.Folds.{list_any_none, list_any-append}
use Rattle.ri_base.specs.Documents.{Field, IsBefore}
use Rattle.ri_base.specs.Pair.{Pair}
use Rattle.field_extents.specs.Extents.{positions}
use Rattle.field_extents.specs.Fields.{covered_count, covers, greatest_end, is_covered, lies_in, lies_in_some}
use Rattle.field_extents.proofs.Counts.{count_by-agree, count_by-all, count_by-parts}
use Rattle.field_extents.proofs.ReachLemmas.{all_behind, begun}

-- a position is covered where the extent of its token lies in a field
abbrev token : ℕ → Pair
token i = record { begin = i; end = i + 1 }

covers-token : (name : List ℕ) (i : ℕ) (f : Field) → covers name i f ≡ lies_in name (token i) f
covers-token name i f =
    let same : nat_lt i f.end ≡ nat_le (i + 1) f.end = grind (arith, nat_tests) in
    ap (λ b. (bytes_eq f.name name && nat_le f.begin i) && b) same

is_covered-token : (fields : List Field) (name : List ℕ) (i : ℕ) → is_covered fields name i ≡ lies_in_some fields name (token i)
is_covered-token [] name i = refl
is_covered-token (f ∷ fields) name i = rw (covers-token name i f, is_covered-token fields name i) refl

is_covered-append : (xs ys : List Field) (name : List ℕ) (i : ℕ) → is_covered (xs ++ ys) name i ≡ (is_covered xs name i || is_covered ys name i)
is_covered-append xs ys name i = list_any-append (covers name i) xs ys

is_covered-split : (fields : List Field) (n : ℕ) (name : List ℕ) (i : ℕ) → is_covered fields name i ≡ (is_covered (take n fields) name i || is_covered (drop n fields) name i)
is_covered-split fields n name i =
    ap (λ fs. is_covered fs name i) (sym (take-append-drop n fields)) ∙ is_covered-append (take n fields) (drop n fields) name i

-- fields that have begun cover a position exactly where their greatest end lies behind it
covered_by-reach : (fields : List Field) (name : List ℕ) (i : ℕ) → All (λ f. f.begin ≤ i) fields → is_covered fields name i ≡ nat_lt i (greatest_end name 0 fields)
covered_by-reach fields name i front =
    let none : nat_le (i + 1) 0 ≡ false = lt-leb (i + 1) 0 (omega arith) in
    let reached : nat_le (i + 1) (greatest_end name 0 fields) ≡ lies_in_some fields name (token i) = begun name (token i) 0 fields front ∙ rw none refl in
    let same : nat_lt i (greatest_end name 0 fields) ≡ nat_le (i + 1) (greatest_end name 0 fields) = grind (arith, nat_tests) in
    is_covered-token fields name i ∙ sym reached ∙ sym same

-- a window's positions that are covered: those up to the reach of what is passed, and those that the others cover
pub covered_count-passed : (fields : List Field) (name : List ℕ) (n reach : ℕ) (window : Pair) → All (λ f. f.begin ≤ window.begin) (take n fields) → reach ≡ greatest_end name 0 (take n fields)
    → count_by (λ i. nat_lt i reach || is_covered (drop n fields) name i) (positions window) ≡ covered_count fields name window
covered_count-passed fields name n reach window front is = count_by-agree (is_covered fields name) (λ i. nat_lt i reach || is_covered (drop n fields) name i) window.begin (window.end - window.begin) (λ i l u.
    let begun_there : All (λ f. f.begin ≤ i) (take n fields) = λ k d m. omega (arith, front k d m) in
    let of_front : is_covered (take n fields) name i ≡ nat_lt i reach = covered_by-reach (take n fields) name i begun_there ∙ ap (nat_lt i) (sym is) in
    ap (λ b. b || is_covered (drop n fields) name i) (sym of_front) ∙ sym (is_covered-split fields n name i))

-- where the reach ends behind the window
pub count_ahead-all : (fields : List Field) (name : List ℕ) (reach : ℕ) (window : Pair) → window.begin < window.end → window.end ≤ reach
    → count_by (λ i. nat_lt i reach || is_covered fields name i) (positions window) ≡ window.end - window.begin
count_ahead-all fields name reach window some far = count_by-all (λ i. nat_lt i reach || is_covered fields name i) window.begin (window.end - window.begin) (λ i l u. rw (lt-ltb i reach (omega arith)) refl)

-- fields that begin behind a position don't cover it
covered_by-begun : (fields : List Field) (name : List ℕ) (i last count : ℕ) → AllPairs IsBefore fields → i ≤ last → count ≡ prefix_len (λ f. nat_le f.begin last) fields → is_covered fields name i ≡ is_covered (take count fields) name i
covered_by-begun fields name i last count in_order before is =
    let none : 0 + prefix_len (λ (f : Field). nat_le f.begin last) fields ≡ count = omega (arith, is) in
    let late : All (λ f. last < f.begin) (drop count fields) = rw none at (all_behind fields 0 last in_order) in
    let rest : is_covered (drop count fields) name i ≡ false = list_any_none (covers name i) (drop count fields) (λ k d l.
    let begins_late : nat_le (get_or (drop count fields) k d).begin i ≡ false = lt-leb _ _ (omega (arith, late k d l)) in
    and_left _ _ (and_right _ _ begins_late)) in
    is_covered-split fields count name i ∙ rw rest (or-false (is_covered (take count fields) name i))

-- where it ends inside the window or before, those that begin inside it are counted behind the reach
pub count_ahead-some : (fields : List Field) (name : List ℕ) (reach from count covered : ℕ) (window : Pair) → AllPairs IsBefore fields → window.begin < window.end → reach < window.end → from ≡ max reach window.begin
    → count ≡ prefix_len (λ f. nat_le f.begin (window.end - 1)) fields → covered ≡ covered_count (take count fields) name (record { begin = from; end = window.end })
    → from - window.begin + covered ≡ count_by (λ i. nat_lt i reach || is_covered fields name i) (positions window)
count_ahead-some fields name reach from count covered window in_order some short is begun_is counted =
    let test : ℕ → Bool = λ i. nat_lt i reach || is_covered fields name i in
    let m : ℕ = from - window.begin in
    let n : ℕ = window.end - from in
    let all : m + n ≡ window.end - window.begin = omega arith in
    let seam : window.begin + m ≡ from = omega arith in
    let parts : count_by test (range_with_len window.begin (window.end - window.begin)) ≡ count_by test (range_with_len window.begin m) + count_by test (range_with_len from n) =
    rw (all, seam) at (count_by-parts test window.begin m n) in
    let front : count_by test (range_with_len window.begin m) ≡ m = count_by-all test window.begin m (λ i l u. rw (lt-ltb i reach (omega arith)) refl) in
    let behind : count_by test (range_with_len from n) ≡ covered_count (take count fields) name (record { begin = from; end = window.end }) = count_by-agree (is_covered (take count fields) name) test from n (λ i l u.
    rw (le-ltb i reach (omega arith)) (covered_by-begun fields name i (window.end - 1) count in_order (omega arith) begun_is)) in
    omega (arith, parts, front, behind, counted)
