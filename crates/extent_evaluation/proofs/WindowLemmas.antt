-- unordered windows
use Rattle.std.proofs.Common.{◌≡◌, ℕ, ◌+◌, ◌-◌, ◌<◌, ◌≤◌, ◌⊎◌, inl, inr, ⊎_elim, Bool, true, false, nat_le, nat_lt, max, Option, Some, None, zero, suc, List, [], ◌∷◌, filter, length, drop, get_or, refl, sym, ◌∙◌, subst, arith}
use Rattle.std.proofs.lemmas.Bool.Decides.{nat_tests}
use Rattle.ri_base.specs.Pair.{Pair}
use Rattle.extent_evaluation.specs.Nearest.{IsTail}
use Rattle.extent_lists.specs.Rows.{begin_at, end_at, least_with}
use Rattle.extent_lists.specs.Operators.{HasEachInside, HasInside, IsInSome, IsLeastEnd, IsWindow, Widens}
use Rattle.extent_lists.specs.Rows.{BeginsAfter, Has, IsAscending, IsRising, Lists, sets}
use Rattle.extent_evaluation.specs.Covers.{Covers, IsLeastOf}
use Rattle.extent_evaluation.proofs.CoverLemmas.{Lists-covers}
use Rattle.extent_lists.proofs.RowLemmas.{begins_ascend, drop_before}
use Rattle.extent_lists.proofs.FilterLemmas.{IsFiltered-filter}
use Rattle.extent_lists.specs.Pairs.{pair}
use Rattle.extent_lists.proofs.RowLemmas.{Has-at, Has-from, least_with-is, least_with-old, least_with-some}

-- ---- the tail of a list

never : {m : ℕ} → None ≡ Some m → ⊥
never h = cc

same_some : (p q : ℕ) → Some p ≡ Some q → p ≡ q
same_some p q h = cc

module _ (xs : List Pair) (low : ℕ) where
  pub IsTail-lower : (top from : ℕ) (found : Option ℕ) → low ≤ top → IsTail xs top from found → IsTail xs low from found
  IsTail-lower top from found lower t = record {
    within = t.within;
    behind = λ k p q. omega (arith, t.behind k p q);
    only = t.only;
    least = t.least;
  }

  pub IsTail-more : (from : ℕ) (found : Option ℕ) (end : ℕ) → IsTail xs low from found → 0 < from → low ≤ begin_at xs (from - 1) → end ≡ end_at xs (from - 1) → IsTail xs low (from - 1) (least_with end found)
  IsTail-more from found end t some begins is = record {
    within = omega (arith, t.within);
    behind = λ k p q. at_front k p q (nat_lt k from) refl;
    only = λ m h. ⊎_elim
        (λ e. (from - 1, omega arith, omega (arith, t.within), sym is ∙ e))
        (λ e. let w = t.only m e in (w.0, omega (arith, w.1), w.2, w.3))
        (least_with-is end found m h);
    least = λ k p q. no_later k p q (nat_lt k from) refl;
  }
    where
      at_front : (k : ℕ) → from - 1 ≤ k → k < length xs → (v : Bool) → nat_lt k from ≡ v → low ≤ begin_at xs k
      at_front k p q true h = let e : from - 1 ≡ k = grind (arith, nat_tests) in subst (λ (j : ℕ). low ≤ begin_at xs j) e begins
      at_front k p q false h = t.behind k (grind (arith, nat_tests)) q

      no_later : (k : ℕ) → from - 1 ≤ k → k < length xs → (v : Bool) → nat_lt k from ≡ v → (m : ℕ) × (least_with end found ≡ Some m) × (m ≤ end_at xs k)
      no_later k p q true h =
          let e : from - 1 ≡ k = grind (arith, nat_tests) in
          let w = least_with-some end found in
          (w.0, w.1, subst (λ (j : ℕ). w.0 ≤ end_at xs j) e (omega (arith, w.2, is)))
      no_later k p q false h =
          let old = t.least k (grind (arith, nat_tests)) q in
          let w = least_with-old end found old.0 old.1 in
          (w.0, w.1, omega (arith, w.2, old.2))

  pub IsLeastOf-tail : IsAscending xs → (from : ℕ) (found : Option ℕ) → IsTail xs low from found → (from ≡ 0) ⊎ (begin_at xs (from - 1) < low) → IsLeastOf (λ b. low ≤ b) xs found
  IsLeastOf-tail up from found t stops = record {
    only = λ m h.
        let w = t.only m h in
        (begin_at xs w.0, t.behind w.0 w.1 w.2, subst (λ (v : ℕ). Has xs (begin_at xs w.0) v) w.3 (Has-from xs w.0 w.2));
    least = λ b e p h.
        let w = Has-at xs b e h in
        let u = t.least w.0 (is_behind w.0 w.1 (omega (arith, w.2, p)) (nat_lt w.0 from) refl) w.1 in
        (u.0, u.1, omega (arith, u.2, w.3));
  }
    where
      is_behind : (k : ℕ) → k < length xs → low ≤ begin_at xs k → (v : Bool) → nat_lt k from ≡ v → from ≤ k
      is_behind k inside begins true h = absurd (⊎_elim
          (λ e. omega (arith, lower))
          (λ e. omega (arith, begins_ascend xs up k (from - 1) (record { begin = 0; end = 0 }) (omega (arith, lower)) (omega (arith, t.within, lower)), e, begins))
          stops)
        where
          lower : k < from
          lower = grind (arith, nat_tests)
      is_behind k inside begins false h = grind (arith, nat_tests)

-- ---- wider extents

module _ (x : Pair) (xs list : List Pair) where
  widens_on : (b e : ℕ) → Widens (Has xs) (Has list) b e → Widens (Has (x ∷ xs)) (Has list) b e
  widens_on b e h = (h.0, inr h.1, h.2, h.3)

  widens_cases : (b e : ℕ) → Widens (Has (x ∷ xs)) (Has list) b e → ((x.begin ≡ b) × (x.end ≤ e) × HasInside (Has list) b e) ⊎ Widens (Has xs) (Has list) b e
  widens_cases b e h = ⊎_elim (λ k. inl (k.0, omega (arith, k.1, h.2), h.3)) (λ k. inr (h.0, k, h.2, h.3)) h.1

-- what begins behind the extents that were widened
pub record IsWidened (list xs zs : List Pair) : Type 0 where
  pub after : (b : ℕ) → BeginsAfter b xs → BeginsAfter b zs
  pub covers : Covers (Widens (Has xs) (Has list)) zs

module _ (list : List Pair) (x : Pair) (xs zs : List Pair) (up : IsRising (x ∷ xs)) (w : IsWidened list xs zs) where
  -- no extent of the list begins at x or behind
  left_out : IsLeastOf (λ b. x.begin ≤ b) list None → IsWidened list (x ∷ xs) zs
  left_out none = record {
    after = λ b h. w.after b h.1;
    covers = record {
      rising = w.covers.rising;
      only = λ b e h. widens_on x xs list b e (w.covers.only b e h);
      least = λ b e h. ⊎_elim
          (λ k. absurd (never (none.least k.2.0 k.2.1 (omega (arith, k.0, k.2.3.0)) k.2.2).1))
          (λ k. w.covers.least b e k)
          (widens_cases x xs list b e h);
    };
  }

  -- m is the least end of those that do
  taken : (m : ℕ) → IsLeastOf (λ b. x.begin ≤ b) list (Some m) → IsWidened list (x ∷ xs) (record { begin = x.begin; end = max x.end m } ∷ zs)
  taken m found =
      let here = found.only m refl in
      record {
        after = λ b h. (h.0, w.after b h.1);
        covers = record {
          rising = (w.after x.begin up.0, w.covers.rising);
          only = λ b e. ⊎_elim
              (λ k. (x.end, inl (k.0, refl), omega (arith, k.1), (here.0, m, here.2, (omega (arith, k.0, here.1), omega (arith, k.1)))))
              (λ k. widens_on x xs list b e (w.covers.only b e k));
          least = λ b e h. ⊎_elim
              (λ k. let u = found.least k.2.0 k.2.1 (omega (arith, k.0, k.2.3.0)) k.2.2 in let s : m ≡ u.0 = same_some m u.0 u.1 in (max x.end m, inl (k.0, refl), omega (arith, k.1, u.2, k.2.3.1)))
              (λ k. let u = w.covers.least b e k in (u.0, inr u.1, u.2))
              (widens_cases x xs list b e h);
        };
      }

IsRising-drop : (i : ℕ) (xs : List Pair) → IsRising xs → IsRising (drop i xs)
IsRising-drop zero xs up = up
IsRising-drop (suc i) [] up = tt
IsRising-drop (suc i) (x ∷ xs) up = IsRising-drop i xs up.1

-- the same at a place of the list
module _ (list xs zs : List Pair) (i : ℕ) (x : Pair) (some : 0 < i) (within : i ≤ length xs) (is : x ≡ get_or xs (i - 1) x) (up : IsRising xs) (w : IsWidened list (drop i xs) zs) where
  pub left_out_step : IsLeastOf (λ b. x.begin ≤ b) list None → IsWidened list (drop (i - 1) xs) zs
  left_out_step none =
      let e = drop_before xs i x some within is in
      rw e (left_out list x (drop i xs) zs (rw e at (IsRising-drop (i - 1) xs up)) w none)

  pub taken_step : (m : ℕ) → IsLeastOf (λ b. x.begin ≤ b) list (Some m) → IsWidened list (drop (i - 1) xs) (record { begin = x.begin; end = max x.end m } ∷ zs)
  taken_step m found =
      let e = drop_before xs i x some within is in
      rw e (taken list x (drop i xs) zs (rw e at (IsRising-drop (i - 1) xs up)) w m found)

-- ---- windows of several lists

each_wider : (ls : List (List Pair)) (b m e : ℕ) → m ≤ e → HasEachInside (sets ls) b m → HasEachInside (sets ls) b e
each_wider [] b m e le h = tt
each_wider (l ∷ ls) b m e le h = ((h.0.0, h.0.1, h.0.2, (h.0.3.0, omega (arith, h.0.3.1))), each_wider ls b m e le h.1)

-- some list has an extent that begins at b and ends at e or before
abbrev pub Begins : List (List Pair) → ℕ → ℕ → Type 0
Begins ls b e = (to : ℕ) × (to ≤ e) × IsInSome (sets ls) b to

-- each of these lists has an extent inside, and some list has one that begins at b
abbrev pub Encloses : List (List Pair) → List (List Pair) → ℕ → ℕ → Type 0
Encloses all ls b e = HasEachInside (sets ls) b e × Begins all b e

Covers-widened : (all : List (List Pair)) (l : List Pair) (ls : List (List Pair)) (xs zs : List Pair) → Covers (Encloses all ls) xs → Covers (Widens (Has xs) (Has l)) zs → Covers (Encloses all (l ∷ ls)) zs
Covers-widened all l ls xs zs c j = record {
  rising = j.rising;
  only = λ b e h. let w = j.only b e h in let u = c.only b w.0 w.1 in ((w.3, each_wider ls b w.0 e w.2 u.0), (u.1.0, omega (arith, u.1.1, w.2), u.1.2));
  least = λ b e h. let u = c.least b e (h.0.1, h.1) in let w = j.least b e (u.0, u.1, u.2, h.0.0) in w;
}

pub Covers-widened_step : (all : List (List Pair)) (i : ℕ) (l xs zs : List Pair) → 0 < i → i ≤ length all → l ≡ get_or all (i - 1) l → Covers (Encloses all (drop i all)) xs → Covers (Widens (Has xs) (Has l)) zs → Covers (Encloses all (drop (i - 1) all)) zs
Covers-widened_step all i l xs zs some within is c j = rw (drop_before all i l some within is) (Covers-widened all l (drop i all) xs zs c j)

-- ---- those that are narrow enough

module _ (n : ℕ) where
  abbrev is_narrow : Pair → Bool
  is_narrow x = nat_le x.end (x.begin + n)

  narrow-true : (b e : ℕ) → is_narrow (pair b e) ≡ true → e ≤ b + n
  narrow-true b e h = grind (arith, nat_tests)

  true-narrow : (b e : ℕ) → e ≤ b + n → is_narrow (pair b e) ≡ true
  true-narrow b e h = grind (arith, nat_tests)

  pub Lists-windows : (all : List (List Pair)) (xs zs : List Pair) → Covers (Encloses all all) xs → zs ≡ filter (λ x. nat_le x.end (x.begin + n)) xs → Lists (IsLeastEnd (IsWindow n (sets all))) zs
  Lists-windows all xs zs c is =
      let m = IsFiltered-filter is_narrow xs in
      rw is (Lists-covers (IsWindow n (sets all)) (filter is_narrow xs) (record {
        rising = m.rising c.rising;
        only = λ b e h. let w = m.only b e h in let u = c.only b e w.0 in record { narrow = narrow-true b e w.1; each = u.0; begins = u.1 };
        least = λ b e h. let w = c.least b e (h.each, h.begins) in (w.0, m.all b w.0 w.1 (true-narrow b w.0 (omega (arith, w.2, h.narrow))), w.2);
      }))
