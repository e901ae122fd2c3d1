-- the extents that lie in fields of a name, and the order of extents
use Rattle.std.proofs.Common.{◌≡◌, ℕ, ◌≤◌, ◌⊎◌, inl, inr, ⊎_elim, Bool, true, false, ◌&&◌, ◌||◌, nat_le, List, [], ◌∷◌, filter, get_or, refl, sym, arith}
use Rattle.std.specs.List.{AllPairs}
use Rattle.std.specs.Str.{bytes_eq}
use Rattle.std.proofs.lemmas.Bool.{true≢false}
use Rattle.std.proofs.lemmas.Bool.Decides.{nat_tests}
use Rattle.std.proofs.lemmas.Slice.Eq.{bytes_eq-Decides}
use Rattle.field_extents.specs.Extents.{AreInOrder, IsNoLater}
use Rattle.field_extents.specs.Fields.{lies_in, lies_in_some}
use Rattle.ri_base.specs.Documents.{Field}
use Rattle.ri_base.specs.Pair.{Pair}
use Rattle.extent_lists.specs.Extents.{LiesInField}
use Rattle.extent_lists.specs.Pairs.{pair}
use Rattle.extent_lists.specs.Listing.{IsBefore}
use Rattle.extent_lists.specs.Rows.{IsAscending, Lists}
use Rattle.extent_lists.proofs.FilterLemmas.{IsFiltered-filter}
use Rattle.extent_lists.proofs.LeafLemmas.{field_cases, field_here, field_later, field_none}
use Rattle.extent_lists.proofs.ListLemmas.{ascending_from}
use Rattle.extent_lists.proofs.ListingLemmas.{AllPairs-ascending}

-- ---- inside a field of a name

lies_in-parts : (f : List ℕ) (b e : ℕ) (s : Field) → lies_in f (pair b e) s ≡ true → (s.name ≡ f) × (s.begin ≤ b) × (e ≤ s.end)
lies_in-parts f b e s h = by (bytes_eq s.name f) refl h
  where
    by : (v : Bool) → bytes_eq s.name f ≡ v → (v && nat_le s.begin b && nat_le e s.end) ≡ true → (s.name ≡ f) × (s.begin ≤ b) × (e ≤ s.end)
    by true same h = ((bytes_eq-Decides s.name f).0 same, grind (arith, nat_tests), grind (arith, nat_tests))
    by false same h = absurd (true≢false (sym h))

lies_in-true : (f : List ℕ) (b e : ℕ) (s : Field) → s.name ≡ f → s.begin ≤ b → e ≤ s.end → lies_in f (pair b e) s ≡ true
lies_in-true f b e s same p q =
    let named : bytes_eq s.name f ≡ true = (bytes_eq-Decides s.name f).1 same in
    rw named (tests p q)
  where
    tests : s.begin ≤ b → e ≤ s.end → (nat_le s.begin b && nat_le e s.end) ≡ true
    tests p q = grind (arith, nat_tests)

lies_or : (p q : Bool) → (p || q) ≡ true → (p ≡ true) ⊎ (q ≡ true)
lies_or true q h = inl refl
lies_or false q h = inr h

LiesInField-test : (fields : List Field) (f : List ℕ) (b e : ℕ) → lies_in_some fields f (pair b e) ≡ true → LiesInField fields f b e
LiesInField-test [] f b e h = absurd (true≢false (sym h))
LiesInField-test (s ∷ rest) f b e h = ⊎_elim
    (λ k. let w = lies_in-parts f b e s k in (s.begin, s.end, field_here s rest f s.begin s.end w.0 refl refl, (w.1, w.2)))
    (λ k. let w = LiesInField-test rest f b e k in (w.0, w.1, field_later s rest f w.0 w.1 w.2, w.3))
    (lies_or (lies_in f (pair b e) s) (lies_in_some rest f (pair b e)) h)

test-LiesInField : (fields : List Field) (f : List ℕ) (b e : ℕ) → LiesInField fields f b e → lies_in_some fields f (pair b e) ≡ true
test-LiesInField [] f b e h = absurd (field_none f h.0 h.1 h.2)
test-LiesInField (s ∷ rest) f b e h = ⊎_elim
    (λ k. rw (lies_in-true f b e s k.0 (omega (arith, k.1, h.3.0)) (omega (arith, k.2, h.3.1))) refl)
    (λ k. or_later (lies_in f (pair b e) s) (test-LiesInField rest f b e (h.0, h.1, k, h.3)))
    (field_cases s rest f h.0 h.1 h.2)
  where
    or_later : (p : Bool) {q : Bool} → q ≡ true → (p || q) ≡ true
    or_later true g = refl
    or_later false g = g

pub Lists-inside : (R : ℕ → ℕ → Type 0) (fields : List Field) (f : List ℕ) (xs zs : List Pair) → Lists R xs → zs ≡ filter (lies_in_some fields f) xs → Lists (λ b e. R b e × LiesInField fields f b e) zs
Lists-inside R fields f xs zs l is =
    let m = IsFiltered-filter (lies_in_some fields f) xs in
    rw is (record {
      ascending = m.ascending l.ascending;
      only = λ b e h. let w = m.only b e h in (l.only b e w.0, LiesInField-test fields f b e w.1);
      all = λ b e h. m.all b e (l.all b e h.0) (test-LiesInField fields f b e h.1);
    })

pub IsAscending-inside : (fields : List Field) (f : List ℕ) (xs zs : List Pair) → IsAscending xs → zs ≡ filter (lies_in_some fields f) xs → IsAscending zs
IsAscending-inside fields f xs zs up is = rw is ((IsFiltered-filter (lies_in_some fields f) xs).ascending up)

-- ---- in order

pub AreInOrder-ascending : (xs : List Pair) → IsAscending xs → AreInOrder xs
AreInOrder-ascending xs up = λ i j d lower inside. no_later (get_or xs i d) (get_or xs j d) (AllPairs-ascending xs up i j d lower inside)
  where
    no_later : (x y : Pair) → IsBefore x y → IsNoLater x y
    no_later x y h = ⊎_elim (λ k. inl k) (λ k. inr (k.0, omega (arith, k.1))) h

pub order_from : (xs : List Pair) → AllPairs IsBefore xs → AreInOrder xs
order_from xs h = AreInOrder-ascending xs (ascending_from xs h)
