-- What is passed, and what begins behind a window, counts for nothing in it.
use Rattle.std.proofs.Common.{◌≡◌, ℕ, ◌<◌, ◌≤◌, Bool, false, nat_le, nat_lt, List, take, drop, get_or, ap, arith}
use Rattle.std.specs.List.{All, AllPairs, prefix_len}
use Rattle.std.specs.Set.{distinct_count}
use Rattle.std.proofs.lemmas.Bool.{and_left, and_right, lt-leb, le-ltb, ltb-false}
use Rattle.std.proofs.lemmas.List.Elements.{All-drop}
use Rattle.std.specs.Prelude.{nat_eq}
use Rattle.ri_base.specs.Pair.{Pair}
use Rattle.field_extents.specs.Extents.{AreInOrder, begin_count, begins, is_inside}
use Rattle.field_extents.proofs.Orders.{begin-IsNoLater}
use Rattle.field_extents.proofs.Prefixes.{fails_behind_first, filter_ahead, filter_front}

abbrev pub begins_before : ℕ → Pair → Bool
begins_before position x = nat_lt x.begin position

-- extents that begin before a window count for nothing in it
pub begin_count-passed : (xs : List Pair) (n : ℕ) (window : Pair) → All (λ x. x.begin < window.begin) (take n xs) → begin_count (drop n xs) window ≡ begin_count xs window
begin_count-passed xs n window passed =
    ap (λ ys. distinct_count nat_eq (begins ys)) (filter_ahead (is_inside window) xs n (λ k d l. and_left _ _ (lt-leb _ _ (passed k d l))))

-- nor do those that begin at its end or behind it
pub begin_count-begun : (xs : List Pair) (window : Pair) (begun : ℕ) → AreInOrder xs → All (λ x. x.begin < x.end) xs → begun ≡ prefix_len (begins_before window.end) xs → begin_count (take begun xs) window ≡ begin_count xs window
begin_count-begun xs window begun in_order some is =
    let stays : AllPairs (λ x y. begins_before window.end x ≡ false → begins_before window.end y ≡ false) xs = λ i j d l u fails.
    le-ltb _ _ (omega (arith, ltb-false _ _ fails, begin-IsNoLater _ _ (in_order i j d l u))) in
    let rest : List Pair = drop begun xs in
    let late : All (λ x. begins_before window.end x ≡ false) rest = rw is (fails_behind_first (begins_before window.end) xs stays) in
    let behind : All (λ x. is_inside window x ≡ false) rest = λ k d l.
    let begins_late : window.end ≤ (get_or rest k d).begin = ltb-false _ _ (late k d l) in
    let has_some : (get_or rest k d).begin < (get_or rest k d).end = All-drop (λ x. x.begin < x.end) begun xs some k d l in
    let ends_late : nat_le (get_or rest k d).end window.end ≡ false = lt-leb _ _ (omega arith) in
    and_right _ _ ends_late in
    ap (λ ys. distinct_count nat_eq (begins ys)) (filter_front (is_inside window) xs begun behind)
