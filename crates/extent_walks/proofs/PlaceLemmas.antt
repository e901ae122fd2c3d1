-- lists in which the next extent is looked up, and the outermost of fields
use Rattle.std.proofs.Common.{◌≡◌, ◌↔◌, ℕ, zero, suc, ◌-◌, ◌<◌, ◌≤◌, ◌⊎◌, inl, inr, ⊎_elim, Bool, true, false, not, leb, nat_lt, Some, None, List, [], ◌∷◌, ◌++◌, length, take, get_or, refl, sym, ap, ◌∙◌, subst, arith}
use Rattle.std.specs.List.Sorted.{IsPartitionedBy, IsPartitionPoint}
use Rattle.std.proofs.lemmas.Bool.Decides.{nat_tests}
use Rattle.std.proofs.lemmas.Bool.{true≢false}
use Rattle.ri_base.specs.Pair.{Pair}
use Rattle.extent_lists.specs.Listing.{IsBefore}
use Rattle.extent_lists.specs.Rows.{begin_at, end_at}
use Rattle.extent_walks.specs.Next.{EndsAfter, EndsRise, IsFrom, IsNext, is_from}
use Rattle.extent_lists.specs.Plans.{LiesInSome}
use Rattle.extent_lists.specs.Rows.{Has, IsAscending, IsBeforeAll}
use Rattle.extent_lists.proofs.ListingLemmas.{AllPairs-ascending}
use Rattle.extent_lists.proofs.RowLemmas.{Has-at, Has-from}
use Rattle.extent_walks.proofs.NextLemmas.{is_from-false, is_from-true, never}

-- ---- the first from a place on

-- the test whether an extent stands before the place
abbrev pub is_short : ℕ → ℕ → Pair → Bool
is_short begin end x = not (is_from begin end x.begin x.end)

not-true : (v : Bool) → not v ≡ true → v ≡ false
not-true true h = absurd (true≢false (sym h))
not-true false h = refl

not-false : (v : Bool) → not v ≡ false → v ≡ true
not-false true h = refl
not-false false h = absurd (true≢false h)

IsFrom-before : (begin end : ℕ) (x y : Pair) → IsFrom begin end x.begin x.end → IsBefore x y → IsFrom begin end y.begin y.end
IsFrom-before begin end x y f p = grind arith

begin_is_at : (xs : List Pair) (k : ℕ) (d : Pair) → k < length xs → (get_or xs k d).begin ≡ begin_at xs k
begin_is_at [] k d h = absurd (omega (arith, h))
begin_is_at (x ∷ xs) zero d h = refl
begin_is_at (x ∷ xs) (suc k) d h = begin_is_at xs k d (omega (arith, h))

pub end_is_at : (xs : List Pair) (k : ℕ) (d : Pair) → k < length xs → (get_or xs k d).end ≡ end_at xs k
end_is_at [] k d h = absurd (omega (arith, h))
end_is_at (x ∷ xs) zero d h = refl
end_is_at (x ∷ xs) (suc k) d h = end_is_at xs k d (omega (arith, h))

pub IsPartitionedBy-short : (xs : List Pair) (begin end : ℕ) → IsAscending xs → IsPartitionedBy (is_short begin end) xs
IsPartitionedBy-short xs begin end up i j d le inside short = by (nat_lt i j) refl
  where
    before : i < j → (v : Bool) → is_from begin end (get_or xs i d).begin (get_or xs i d).end ≡ v → not v ≡ true
    before lower true e =
        let f = is_from-true begin end _ _ e in
        let g = IsFrom-before begin end (get_or xs i d) (get_or xs j d) f (AllPairs-ascending xs up i j d lower inside) in
        absurd (is_from-false begin end _ _ (not-true _ short) g)
    before lower false e = refl

    by : (v : Bool) → nat_lt i j ≡ v → is_short begin end (get_or xs i d) ≡ true
    by true h = before (grind (arith, nat_tests)) (is_from begin end (get_or xs i d).begin (get_or xs i d).end) refl
    by false h = let same : j ≡ i = grind (arith, nat_tests) in subst (λ (k : ℕ). is_short begin end (get_or xs k d) ≡ true) same short

module _ (xs : List Pair) (up : IsAscending xs) (begin end count : ℕ) (within : count ≤ length xs)
    (p : IsPartitionPoint (λ (x : Pair). is_short begin end x ≡ true) (λ (x : Pair). is_short begin end x ≡ false) xs count) where
  none : Pair
  none = record { begin = 0; end = 0 }

  short_before : (k : ℕ) → k < count → IsFrom begin end (begin_at xs k) (end_at xs k) → ⊥
  unfolding none
  short_before k lower f = is_from-false begin end _ _ (not-true _ (p.0 k none (omega arith) lower)) f

  pub IsNext-none_listed : count ≡ length xs → IsNext (λ b e. Has xs b e × (b < e)) begin end None
  IsNext-none_listed last = record {
    only = λ x h. absurd (never h);
    least = λ b e h f.
        let w = Has-at xs b e h.0 in
        absurd (short_before w.0 (omega (arith, w.1, last)) (subst (λ (v : ℕ). IsFrom begin end v (end_at xs w.0)) (sym w.2) (subst (λ (v : ℕ). IsFrom begin end b v) (sym w.3) f)));
  }

  pub IsNext-listed : (x : Pair) → count < length xs → x ≡ get_or xs count x → x.begin < x.end → IsNext (λ b e. Has xs b e × (b < e)) begin end (Some x)
  unfolding none
  IsNext-listed x inside is some =
      let begins : begin_at xs count ≡ x.begin = sym (begin_is_at xs count x inside) ∙ sym (ap (λ (v : Pair). v.begin) is) in
      let ends : end_at xs count ≡ x.end = sym (end_is_at xs count x inside) ∙ sym (ap (λ (v : Pair). v.end) is) in
      let long = is_from-true begin end (begin_at xs count) (end_at xs count) (not-false _ (p.1 count none (omega arith) inside)) in
      let here : Has xs x.begin x.end = subst (λ (v : ℕ). Has xs v x.end) begins (subst (λ (v : ℕ). Has xs (begin_at xs count) v) ends (Has-from xs count inside)) in
      let from : IsFrom begin end x.begin x.end = subst (λ (v : ℕ). IsFrom begin end v x.end) begins (subst (λ (v : ℕ). IsFrom begin end (begin_at xs count) v) ends long) in
      record {
        only = λ y h.
            let same : x ≡ y = cc in
            subst (λ (v : Pair). (Has xs v.begin v.end × (v.begin < v.end)) × IsFrom begin end v.begin v.end) same ((here, some), from);
        least = λ b e h f.
            let w = Has-at xs b e h.0 in
            (x, refl, later w.0 b e w.1 w.2 w.3 f begins ends);
      }
    where
      later : (k b e : ℕ) → k < length xs → begin_at xs k ≡ b → end_at xs k ≡ e → IsFrom begin end b e → begin_at xs count ≡ x.begin → end_at xs count ≡ x.end → IsFrom x.begin x.end b e
      later k b e inside_k is_b is_e f begins ends = by (nat_lt k count) refl (nat_lt count k) refl
        where
          by : (v : Bool) → nat_lt k count ≡ v → (w : Bool) → nat_lt count k ≡ w → IsFrom x.begin x.end b e
          by true h w j =
              absurd (short_before k (grind (arith, nat_tests)) (subst (λ (v : ℕ). IsFrom begin end v (end_at xs k)) (sym is_b) (subst (λ (v : ℕ). IsFrom begin end b v) (sym is_e) f)))
          by false h true j =
              let lower : count < k = grind (arith, nat_tests) in
              let before : IsBefore (get_or xs count none) (get_or xs k none) = AllPairs-ascending xs up count k none lower inside_k in
              behind (begin_at xs count) (end_at xs count) (begin_at xs k) (end_at xs k) before begins ends is_b is_e
            where
              behind : (a c m n : ℕ) → (a < m) ⊎ (a ≡ m) × (c < n) → a ≡ x.begin → c ≡ x.end → m ≡ b → n ≡ e → IsFrom x.begin x.end b e
              behind a c m n p q r s t = grind arith
          by false h false j =
              let same : k ≡ count = grind (arith, nat_tests) in
              let b_is : begin_at xs k ≡ begin_at xs count = ap (λ (v : ℕ). begin_at xs v) same in
              let e_is : end_at xs k ≡ end_at xs count = ap (λ (v : ℕ). end_at xs v) same in
              inr (omega (arith, b_is, begins, is_b), omega (arith, e_is, ends, is_e))

-- ---- the outermost fields

ends_after : (e : ℕ) (xs : List Pair) (k : ℕ) → EndsAfter e xs → k < length xs → e < end_at xs k
ends_after e [] k h inside = absurd (omega (arith, inside))
ends_after e (x ∷ xs) zero h inside = h.0
ends_after e (x ∷ xs) (suc k) h inside = ends_after e xs k h.1 (omega (arith, inside))

ends_rise : (xs : List Pair) → EndsRise xs → (i j : ℕ) → i < j → j < length xs → end_at xs i < end_at xs j
ends_rise [] up i j lower inside = absurd (omega (arith, inside))
ends_rise (x ∷ xs) up zero zero lower inside = absurd (omega (arith, lower))
ends_rise (x ∷ xs) up zero (suc j) lower inside = ends_after x.end xs j up.0 (omega (arith, inside))
ends_rise (x ∷ xs) up (suc i) zero lower inside = absurd (omega (arith, lower))
ends_rise (x ∷ xs) up (suc i) (suc j) lower inside = ends_rise xs up.1 i j (omega (arith, lower)) (omega (arith, inside))

module _ (xs : List Pair) (rise : EndsRise xs) (b e count : ℕ) (within : count ≤ length xs)
    (p : IsPartitionPoint (λ (x : Pair). leb x.begin b ≡ true) (λ (x : Pair). leb x.begin b ≡ false) xs count) where
  begins_before : (k : ℕ) → k < count → begin_at xs k ≤ b
  begins_before k lower =
      let none : Pair = record { begin = 0; end = 0 } in
      let h : leb (get_or xs k none).begin b ≡ true = p.0 k none (omega arith) lower in
      grind (arith, nat_tests)

  begins_behind : (k : ℕ) → count ≤ k → k < length xs → b < begin_at xs k
  begins_behind k least inside =
      let none : Pair = record { begin = 0; end = 0 } in
      let h : leb (get_or xs k none).begin b ≡ false = p.1 k none least inside in
      grind (arith, nat_tests)

  pub lies-last : 0 < count → e ≤ end_at xs (count - 1) → LiesInSome xs b e
  lies-last some ends = (begin_at xs (count - 1), end_at xs (count - 1), Has-from xs (count - 1) (omega arith), (begins_before (count - 1) (omega arith), ends))

  pub last-lies : LiesInSome xs b e → (0 < count) × (e ≤ end_at xs (count - 1))
  last-lies h =
      let w = Has-at xs h.0 h.1 h.2 in
      by w.0 w.1 w.2 w.3 (nat_lt w.0 count) refl (nat_lt w.0 (count - 1)) refl
    where
      by : (k : ℕ) → k < length xs → begin_at xs k ≡ h.0 → end_at xs k ≡ h.1 → (v : Bool) → nat_lt k count ≡ v → (w : Bool) → nat_lt k (count - 1) ≡ w → (0 < count) × (e ≤ end_at xs (count - 1))
      by k inside begins ends false j w l = absurd (omega (arith, begins_behind k (grind (arith, nat_tests)) inside, begins, h.3.0))
      by k inside begins ends true j true l =
          let lower : k < count - 1 = grind (arith, nat_tests) in
          let rises : end_at xs k < end_at xs (count - 1) = ends_rise xs rise k (count - 1) lower (omega arith) in
          (omega arith, omega (arith, rises, ends, h.3.1))
      by k inside begins ends true j false l =
          let inside_count : k < count = grind (arith, nat_tests) in
          let same : k ≡ count - 1 = grind (arith, nat_tests) in
          let at : end_at xs k ≡ end_at xs (count - 1) = ap (λ (v : ℕ). end_at xs v) same in
          (omega arith, omega (arith, at, ends, h.3.1))

Has-push : (xs : List Pair) (x : Pair) (b e : ℕ) → Has (xs ++ x ∷ []) b e → Has xs b e ⊎ ((x.begin ≡ b) × (x.end ≡ e))
Has-push [] x b e h = ⊎_elim (λ k. inr k) (λ k. absurd k) h
Has-push (y ∷ ys) x b e h = ⊎_elim (λ k. inl (inl k)) (λ k. ⊎_elim (λ u. inl (inr u)) (λ u. inr u) (Has-push ys x b e k)) h

Has-pushed : (xs : List Pair) (x : Pair) (b e : ℕ) → Has xs b e → Has (xs ++ x ∷ []) b e
Has-pushed [] x b e h = absurd h
Has-pushed (y ∷ ys) x b e h = ⊎_elim (λ k. inl k) (λ k. inr (Has-pushed ys x b e k)) h

Has-last : (xs : List Pair) (x : Pair) → Has (xs ++ x ∷ []) x.begin x.end
Has-last [] x = inl (refl, refl)
Has-last (y ∷ ys) x = inr (Has-last ys x)

IsBeforeAll-push : (y : Pair) (xs : List Pair) (x : Pair) → IsBeforeAll y xs → IsBefore y x → IsBeforeAll y (xs ++ x ∷ [])
IsBeforeAll-push y [] x h k = (k, tt)
IsBeforeAll-push y (z ∷ zs) x h k = (h.0, IsBeforeAll-push y zs x h.1 k)

IsAscending-push : (xs : List Pair) (x : Pair) → IsAscending xs → ((y : Pair) → Has xs y.begin y.end → IsBefore y x) → IsAscending (xs ++ x ∷ [])
IsAscending-push [] x up before = (tt, tt)
IsAscending-push (y ∷ ys) x up before = (IsBeforeAll-push y ys x up.0 (before y (inl (refl, refl))), IsAscending-push ys x up.1 (λ z h. before z (inr h)))

EndsAfter-push : (e : ℕ) (xs : List Pair) (x : Pair) → EndsAfter e xs → e < x.end → EndsAfter e (xs ++ x ∷ [])
EndsAfter-push e [] x h k = (k, tt)
EndsAfter-push e (y ∷ ys) x h k = (h.0, EndsAfter-push e ys x h.1 k)

EndsRise-push : (xs : List Pair) (x : Pair) → EndsRise xs → ((y : Pair) → Has xs y.begin y.end → y.end < x.end) → EndsRise (xs ++ x ∷ [])
EndsRise-push [] x up before = (tt, tt)
EndsRise-push (y ∷ ys) x up before = (EndsAfter-push y.end ys x up.0 (before y (inl (refl, refl))), EndsRise-push ys x up.1 (λ z h. before z (inr h)))

-- the outermost of these, and the greatest end
pub record AreOutermost (xs items : List Pair) (reach : ℕ) : Type 0 where
  pub only : (y : Pair) → Has items y.begin y.end → Has xs y.begin y.end
  pub all : (b e : ℕ) → Has xs b e → LiesInSome items b e
  pub ascending : IsAscending items
  pub rise : EndsRise items
  pub below : (y : Pair) → Has items y.begin y.end → y.end ≤ reach
  pub reached : 0 < reach → (b : ℕ) × Has items b reach

pub AreOutermost-none : AreOutermost [] [] 0
AreOutermost-none = record {
  only = λ y h. h;
  all = λ b e h. absurd h;
  ascending = tt;
  rise = tt;
  below = λ y h. absurd h;
  reached = λ h. absurd (omega (arith, h));
}

module _ (xs items : List Pair) (reach : ℕ) (x : Pair) (o : AreOutermost xs items reach) (before : (y : Pair) → Has xs y.begin y.end → IsBefore y x) where
  pub AreOutermost-taken : reach < x.end → AreOutermost (xs ++ x ∷ []) (items ++ x ∷ []) x.end
  AreOutermost-taken further = record {
    only = λ y h. ⊎_elim
        (λ k. Has-pushed xs x y.begin y.end (o.only y k))
        (λ k. subst (λ (v : ℕ). Has (xs ++ x ∷ []) v y.end) k.0 (subst (λ (v : ℕ). Has (xs ++ x ∷ []) x.begin v) k.1 (Has-last xs x)))
        (Has-push items x y.begin y.end h);
    all = λ b e h. ⊎_elim
        (λ k. let w = o.all b e k in (w.0, w.1, Has-pushed items x w.0 w.1 w.2, w.3))
        (λ k. (x.begin, x.end, Has-last items x, (omega (arith, k.0), omega (arith, k.1))))
        (Has-push xs x b e h);
    ascending = IsAscending-push items x o.ascending (λ y h. before y (o.only y h));
    rise = EndsRise-push items x o.rise (λ y h. omega (arith, o.below y h, further));
    below = λ y h. ⊎_elim
        (λ k. omega (arith, o.below y k, further))
        (λ k. omega (arith, k.1))
        (Has-push items x y.begin y.end h);
    reached = λ h. (x.begin, Has-last items x);
  }

  pub AreOutermost-passed : x.end ≤ reach → 0 < x.end → AreOutermost (xs ++ x ∷ []) items reach
  AreOutermost-passed inside some =
      let last = o.reached (omega (arith, inside, some)) in
      let outer : Pair = record { begin = last.0; end = reach } in
      let earlier = begin_no_later outer x (before outer (o.only outer last.1)) in
      record {
        only = λ y h. Has-pushed xs x y.begin y.end (o.only y h);
        all = λ b e h. ⊎_elim
            (λ k. o.all b e k)
            (λ k. (last.0, reach, last.1, (omega (arith, k.0, earlier), omega (arith, k.1, inside))))
            (Has-push xs x b e h);
        ascending = o.ascending;
        rise = o.rise;
        below = o.below;
        reached = o.reached;
      }
    where
      begin_no_later : (y z : Pair) → IsBefore y z → y.begin ≤ z.begin
      begin_no_later y z p = grind arith

same_before : (z y x : Pair) → (z.begin ≡ y.begin) × (z.end ≡ y.end) → IsBefore z x → IsBefore y x
same_before z y x k p = grind arith

-- each of the first stands before the next
pub before_next : (xs : List Pair) (i : ℕ) (x : Pair) → IsAscending xs → i < length xs → x ≡ get_or xs i x → (y : Pair) → Has (take i xs) y.begin y.end → IsBefore y x
before_next [] i x up inside is y h = absurd (omega (arith, inside))
before_next (z ∷ zs) zero x up inside is y h = absurd h
before_next (z ∷ zs) (suc i) x up inside is y h = ⊎_elim
    (λ k.
    let before : IsBefore z (get_or zs i x) = AllPairs-ascending (z ∷ zs) up zero (suc i) x (omega arith) inside in
    let next : IsBefore z x = subst (λ (v : Pair). IsBefore z v) (sym is) before in
    same_before z y x k next)
    (λ k. before_next zs i x up.1 (omega (arith, inside)) is y k)
    h

pub LiesInSome-same : (xs items : List Pair) (reach b e : ℕ) → AreOutermost xs items reach → LiesInSome items b e ↔ LiesInSome xs b e
LiesInSome-same xs items reach b e o = (
  λ h. (h.0, h.1, o.only (record { begin = h.0; end = h.1 }) h.2, h.3),
  λ h.
      let w = o.all h.0 h.1 h.2 in
      (w.0, w.1, w.2, (omega (arith, w.3.0, h.3.0), omega (arith, w.3.1, h.3.1))),
)
