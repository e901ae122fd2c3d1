-- The pass over extents in order that counts the positions at which those inside a window begin.
use Rattle.std.proofs.Common.{◌≡◌, ℕ, ◌+◌, ◌-◌, ◌<◌, ◌≤◌, ⊎_elim, Bool, true, false, ◌||◌, ◌&&◌, nat_le, nat_eq, min, max, List, [], ◌∷◌, length, take, get_or, filter, refl, sym, ◌∙◌, arith}
use Rattle.std.specs.List.{All, AllWithin, count_by, list_any}
use Rattle.std.specs.Set.{is_member}
use Rattle.std.proofs.Math.Bool.{or-false}
use Rattle.std.proofs.lemmas.Bool.{and_parts, cases_Bool, cases_lt, or_right, eq-eqb, leb-true}
use Rattle.std.proofs.lemmas.Bool.Decides.{nat_tests}
use Rattle.std.proofs.lemmas.List.{get_or_read, take_all}
use Rattle.std.proofs.lemmas.List.Elements.{All-filter, All-map, All-more, filter_passes}
use Rattle.std.proofs.lemmas.List.Folds.{list_any_more}
use Rattle.ri_base.specs.Pair.{Pair}
use Rattle.field_extents.specs.Extents.{IsNoLater, AreInOrder, is_inside, begins, begin_count}
use Rattle.field_extents.specs.Extents.{positions}
use Rattle.field_extents.proofs.Counts.{count_by-none, count_by-agree}
use Rattle.field_extents.proofs.Distinct.{distinct_count-by_positions}
use Rattle.field_extents.proofs.Orders.{begin-IsNoLater}
use Rattle.field_extents.proofs.Sweep.{IsSwept, IsFilled, Adds, IsSwept-agree, IsFilled-agree, IsSwept-taken, IsFilled-taken, IsSwept-passed, IsFilled-passed}

-- an extent inside the window begins at this position
abbrev pub begins_at : Pair → ℕ → Pair → Bool
begins_at window at x = is_inside window x && nat_eq at x.begin

-- some extent does
abbrev pub some_begins_at : List Pair → Pair → ℕ → Bool
some_begins_at xs window at = list_any (begins_at window at) xs

-- those positions are the begins of the extents inside the window
some_begins_at-is : (xs : List Pair) (window : Pair) (i : ℕ) → some_begins_at xs window i ≡ is_member nat_eq (begins (filter (is_inside window) xs)) i
some_begins_at-is [] window i = refl
some_begins_at-is (x ∷ xs) window i =
    let rest = some_begins_at-is xs window i in
    ⊎_elim
    (λ (within : is_inside window x ≡ true). rw (within, rest) refl)
    (λ (outside : is_inside window x ≡ false). rw (outside, rest) refl)
    (cases_Bool (is_inside window x))

begin_inside : (x window : Pair) → is_inside window x ≡ true → x.begin < x.end → (window.begin ≤ x.begin) × (x.begin < window.end)
begin_inside x window within some =
    let parts = and_parts (nat_le window.begin x.begin) (nat_le x.end window.end) within in
    let low : window.begin ≤ x.begin = leb-true _ _ parts.0 in
    let high : x.end ≤ window.end = leb-true _ _ parts.1 in
    (low, omega arith)

begins_inside : (xs : List Pair) (window : Pair) → All (λ x. x.begin < x.end) xs → All (λ b. (window.begin ≤ b) × (b < window.begin + (window.end - window.begin))) (begins (filter (is_inside window) xs))
begins_inside xs window some =
    let within = filter (is_inside window) xs in
    All-map (λ b. (window.begin ≤ b) × (b < window.begin + (window.end - window.begin))) (λ x. x.begin) within (λ k d l.
    let bounds = begin_inside (get_or within k d) window (filter_passes (is_inside window) xs k d l) (All-filter (is_inside window) (λ x. x.begin < x.end) xs some k d l) in
    (bounds.0, omega (arith, bounds.0, bounds.1)))

-- the distinct begins of the extents inside a window are the positions at which one begins
pub begin_count-by_positions : (xs : List Pair) (window : Pair) → All (λ x. x.begin < x.end) xs → begin_count xs window ≡ count_by (some_begins_at xs window) (positions window)
begin_count-by_positions xs window some =
    let bs = begins (filter (is_inside window) xs) in
    distinct_count-by_positions bs window.begin (window.end - window.begin) (begins_inside xs window some)
    ∙ count_by-agree (some_begins_at xs window) (is_member nat_eq bs) window.begin (window.end - window.begin) (λ i l u. sym (some_begins_at-is xs window i))

-- the first k extents have been counted
pub record CountsFront (xs : List Pair) (window : Pair) (k count next : ℕ) : Type 0 where
  pub some : All (λ x. x.begin < x.end) (take k xs)
  pub swept : IsSwept window (some_begins_at (take k xs) window) count next
  pub filled : AllWithin (λ x. IsFilled window (some_begins_at (take k xs) window) next x.begin) xs k (length xs)

pub CountsFront-none : (xs : List Pair) (window : Pair) → window.begin < window.end → CountsFront xs window 0 0 window.begin
CountsFront-none xs window some = record {
  some = λ k d l. absurd (omega arith);
  swept = record {
    counted = sym (count_by-none (some_begins_at [] window) window.begin (window.end - window.begin) (λ i l u. refl));
    low = omega arith;
    high = omega arith;
    few = omega arith;
    ahead = λ i l u. refl;
  };
  filled = λ k d l u. record { passes = λ i m n o. absurd (omega arith) };
}

pub begin_count-CountsFront : (xs : List Pair) (window : Pair) (k count next : ℕ) → length xs ≤ k → CountsFront xs window k count next → count ≡ begin_count xs window
begin_count-CountsFront xs window k count next all f =
    rw (← take_all k xs all) (f.swept.counted ∙ sym (begin_count-by_positions (take k xs) window f.some))

pub All-CountsFront : (xs : List Pair) (window : Pair) (k count next : ℕ) → length xs ≤ k → CountsFront xs window k count next → All (λ x. x.begin < x.end) xs
All-CountsFront xs window k count next all f = rw (← take_all k xs all) f.some

module _ (xs : List Pair) (window : Pair) (k count next : ℕ) (x : Pair) (within : k < length xs) (read : x ≡ get_or xs k x) (in_order : AreInOrder xs) (has_some : x.begin < x.end) (f : CountsFront xs window k count next) where
  with_next : (i : ℕ) → some_begins_at (take (k + 1) xs) window i ≡ (some_begins_at (take k xs) window i || begins_at window i x)
  with_next i = rw read (list_any_more (begins_at window i) xs k x within)

  without : (i : ℕ) → begins_at window i x ≡ false → (some_begins_at (take k xs) window i || begins_at window i x) ≡ some_begins_at (take k xs) window i
  without i h = rw h (or-false (some_begins_at (take k xs) window i))

  adds : is_inside window x ≡ true → Adds (some_begins_at (take k xs) window) (some_begins_at (take (k + 1) xs) window) x.begin (x.begin + 1)
  adds inside = record {
    run = λ i l u. with_next i ∙ or_right (some_begins_at (take k xs) window i) (begins_at window i x) (rw inside (eq-eqb i x.begin (omega arith)));
    before = λ i u. with_next i ∙ without i (rw inside (grind (arith, nat_tests)));
    behind = λ i l. with_next i ∙ without i (rw inside (grind (arith, nat_tests)));
  }

  same_outside : is_inside window x ≡ false → (i : ℕ) → some_begins_at (take (k + 1) xs) window i ≡ some_begins_at (take k xs) window i
  same_outside outside i = with_next i ∙ without i (rw outside refl)

  begins_later : (j : ℕ) (d : Pair) → k + 1 ≤ j → j < length xs → x.begin ≤ (get_or xs j d).begin
  begins_later j d l u =
      let order : IsNoLater (get_or xs k d) (get_or xs j d) = in_order k j d (omega arith) u in
      let is : x ≡ get_or xs k d = get_or_read xs k x within read d in
      begin-IsNoLater x (get_or xs j d) (rw is order)

  some_more : All (λ y. y.begin < y.end) (take (k + 1) xs)
  some_more = All-more (λ y. y.begin < y.end) xs k x within f.some (rw (← read) has_some)

  filled_here : IsFilled window (some_begins_at (take k xs) window) next x.begin
  filled_here = rw read (f.filled k x (omega arith) within)

  -- an extent inside the window whose begin was not counted
  pub CountsFront-taken : next ≤ x.begin → x.end ≤ window.end → CountsFront xs window (k + 1) (count + 1) (x.begin + 1)
  CountsFront-taken new high =
      let inside : is_inside window x ≡ true = grind (arith, nat_tests, f.swept.low) in
      let order : max x.begin next < min (x.begin + 1) window.end = omega arith in
      let to : min (x.begin + 1) window.end ≡ x.begin + 1 = omega arith in
      let one : min (x.begin + 1) window.end - max x.begin next ≡ 1 = omega arith in
      record {
        some = some_more;
        swept = rw (one, to) at (IsSwept-taken window _ _ count next x.begin (x.begin + 1) f.swept filled_here (adds inside) order);
        filled = λ j d l u. rw to at (IsFilled-taken window _ _ count next x.begin (x.begin + 1) f.swept filled_here (adds inside) order (get_or xs j d).begin (begins_later j d l u));
      }

  counted_before : (next ≤ x.begin → x.end ≤ window.end → ⊥) → is_inside window x ≡ true → x.begin < next
  counted_before other inside =
      let parts = and_parts (nat_le window.begin x.begin) (nat_le x.end window.end) inside in
      ⊎_elim (λ (before : x.begin < next). before) (λ (new : next ≤ x.begin). absurd (other new (leb-true _ _ parts.1))) (cases_lt x.begin next)

  -- any other extent
  pub CountsFront-passed : (next ≤ x.begin → x.end ≤ window.end → ⊥) → CountsFront xs window (k + 1) count next
  CountsFront-passed other = ⊎_elim
      (λ (inside : is_inside window x ≡ true).
      let before : x.begin < next = counted_before other inside in
      let order : min (x.begin + 1) window.end ≤ max x.begin next = omega arith in
      record {
        some = some_more;
        swept = IsSwept-passed window _ _ count next x.begin (x.begin + 1) f.swept filled_here (adds inside) order;
        filled = λ j d l u. IsFilled-passed window _ _ count next x.begin (x.begin + 1) f.swept filled_here (adds inside) order (get_or xs j d).begin (f.filled j d (omega arith) u);
      })
      (λ (outside : is_inside window x ≡ false). record {
        some = some_more;
        swept = IsSwept-agree window _ _ count next (λ i l u. same_outside outside i) f.swept;
        filled = λ j d l u. IsFilled-agree window _ _ next (get_or xs j d).begin f.swept.high (λ i m n. same_outside outside i) (f.filled j d (omega arith) u);
      })
      (cases_Bool (is_inside window x))
