-- the least end for each begin
use Rattle.std.proofs.Common.{◌≡◌, ℕ, ◌<◌, ◌≤◌, ◌⊎◌, inl, inr, ⊎_elim, Bool, true, false, cond, ◌==◌, min, ◌-◌, zero, suc, List, [], ◌∷◌, length, drop, get_or, refl, subst, arith}
use Rattle.std.specs.List.Sorted.{IsNonDecreasingBy}
use Rattle.std.proofs.lemmas.List.Sorted.{IsNonDecreasingBy-drop}
use Rattle.std.proofs.lemmas.Bool.Decides.{nat_tests}
use Rattle.ri_base.specs.Pair.{Pair}
use Rattle.extent_lists.specs.Operators.{IsLeastEnd}
use Rattle.extent_lists.specs.Rows.{BeginsAfter, Has, IsAscending, IsBeforeAll, IsRising, Lists}
use Rattle.extent_lists.proofs.RowLemmas.{BeginsFrom, drop_before}
use Rattle.extent_evaluation.specs.Covers.{Covers, with_least}

pub BeginsAfter-lower : (b c : ℕ) (xs : List Pair) → b ≤ c → BeginsAfter c xs → BeginsAfter b xs
BeginsAfter-lower b c [] h p = tt
BeginsAfter-lower b c (x ∷ xs) h p = (omega arith, BeginsAfter-lower b c xs h p.1)

BeginsFrom-after : (b : ℕ) (xs : List Pair) → BeginsAfter b xs → BeginsFrom b xs
BeginsFrom-after b [] p = tt
BeginsFrom-after b (x ∷ xs) p = (omega arith, BeginsFrom-after b xs p.1)

IsBeforeAll-after : (x : Pair) (xs : List Pair) → BeginsAfter x.begin xs → IsBeforeAll x xs
IsBeforeAll-after x [] p = tt
IsBeforeAll-after x (y ∷ ys) p = (inl p.0, IsBeforeAll-after x ys p.1)

pub IsAscending-rising : (xs : List Pair) → IsRising xs → IsAscending xs
IsAscending-rising [] p = tt
IsAscending-rising (x ∷ xs) p = (IsBeforeAll-after x xs p.0, IsAscending-rising xs p.1)

has_after : (c : ℕ) (xs : List Pair) (b e : ℕ) → BeginsAfter c xs → Has xs b e → c < b
has_after c [] b e p h = absurd h
has_after c (x ∷ xs) b e p h = ⊎_elim (λ k. omega arith) (λ k. has_after c xs b e p.1 k) h

-- extents whose begins rise have one end for each begin
one_end : (xs : List Pair) (b e m : ℕ) → IsRising xs → Has xs b e → Has xs b m → e ≡ m
one_end [] b e m p h k = absurd h
one_end (x ∷ xs) b e m p h k =
    ⊎_elim
    (λ u. ⊎_elim (λ v. omega arith) (λ v. absurd (omega (arith, has_after x.begin xs b m p.0 v))) k)
    (λ u. ⊎_elim (λ v. absurd (omega (arith, has_after x.begin xs b e p.0 u))) (λ v. one_end xs b e m p.1 u v) k)
    h

pub Lists-covers : (R : ℕ → ℕ → Type 0) (zs : List Pair) → Covers R zs → Lists (IsLeastEnd R) zs
Lists-covers R zs c = record {
  ascending = IsAscending-rising zs c.rising;
  only = λ b e h. record {
    ends = c.only b e h;
    least = λ other r. let w = c.least b other r in omega (arith, one_end zs b e w.0 c.rising h w.1);
  };
  all = λ b e h. let w = c.least b e h.ends in subst (λ (m : ℕ). Has zs b m) (omega (arith, h.least w.0 (c.only b w.0 w.1))) w.1;
}

-- what `with_least x ys` is
pub record IsPut (x : Pair) (ys zs : List Pair) : Type 0 where
  pub rising : IsRising zs
  pub from : (b : ℕ) → b ≤ x.begin → BeginsFrom b zs
  pub only : (b e : ℕ) → Has zs b e → Has (x ∷ ys) b e
  pub least : (b e : ℕ) → Has (x ∷ ys) b e → (m : ℕ) × Has zs b m × (m ≤ e)

pub IsPut-with_least : (x : Pair) (ys : List Pair) → IsRising ys → BeginsFrom x.begin ys → IsPut x ys (with_least x ys)
IsPut-with_least x [] r f = record {
  rising = (tt, tt);
  from = λ b h. (h, tt);
  only = λ b e h. h;
  least = λ b e h. (e, h, omega arith);
}
IsPut-with_least x (y ∷ ys) r f = chosen (x.begin == y.begin) refl
  where
    alike : x.begin ≡ y.begin → IsPut x (y ∷ ys) (record { begin = y.begin; end = min x.end y.end } ∷ ys)
    alike same = record {
      rising = (r.0, r.1);
      from = λ b h. (omega arith, BeginsFrom-after b ys (BeginsAfter-lower b y.begin ys (omega arith) r.0));
      only = λ b e. ⊎_elim (λ h. ⊎_elim (λ k. inl (omega arith, k)) (λ k. inr (inl (h.0, k))) (which e h.1)) (λ h. inr (inr h));
      least = λ b e. ⊎_elim (λ h. (min x.end y.end, inl (omega arith, refl), omega arith)) (λ h. ⊎_elim (λ k. (min x.end y.end, inl (k.0, refl), omega arith)) (λ k. (e, inr k, omega arith)) h);
    }
      where
        which : (e : ℕ) → min x.end y.end ≡ e → (x.end ≡ e) ⊎ (y.end ≡ e)
        which e h = grind arith

    apart : x.begin < y.begin → IsPut x (y ∷ ys) (x ∷ y ∷ ys)
    apart lower = record {
      rising = ((lower, BeginsAfter-lower x.begin y.begin ys (omega arith) r.0), r);
      from = λ b h. (h, (omega arith, BeginsFrom-after b ys (BeginsAfter-lower b y.begin ys (omega arith) r.0)));
      only = λ b e h. h;
      least = λ b e h. (e, h, omega arith);
    }

    chosen : (v : Bool) → (x.begin == y.begin) ≡ v → IsPut x (y ∷ ys) (cond v (record { begin = y.begin; end = min x.end y.end } ∷ ys) (x ∷ y ∷ ys))
    chosen true h = alike (grind (arith, nat_tests))
    chosen false h = apart (grind (arith, nat_tests))

-- a list that covers a set, and begins no earlier than what it was made of
pub record CoversFrom (R : ℕ → ℕ → Type 0) (xs zs : List Pair) : Type 0 where
  pub from : (b : ℕ) → BeginsFrom b xs → BeginsFrom b zs
  pub covers : Covers R zs

-- one extent more in front
pub CoversFrom-put : (R S : ℕ → ℕ → Type 0) (x : Pair) (m : ℕ) (xs zs : List Pair) → BeginsFrom x.begin xs → CoversFrom R xs zs →
    ((b e : ℕ) → R b e → S b e) → S x.begin m → ((b e : ℕ) → S b e → ((x.begin ≡ b) × (m ≤ e)) ⊎ R b e) → CoversFrom S (x ∷ xs) (with_least (record { begin = x.begin; end = m }) zs)
CoversFrom-put R S x m xs zs before c wider here cases =
    let y : Pair = record { begin = x.begin; end = m } in
    let p = IsPut-with_least y zs c.covers.rising (c.from x.begin before) in
    record {
      from = λ b h. p.from b h.0;
      covers = record {
        rising = p.rising;
        only = λ b e h. ⊎_elim (λ k. subst (λ (n : ℕ). S n e) k.0 (subst (λ (n : ℕ). S x.begin n) k.1 here)) (λ k. wider b e (c.covers.only b e k)) (p.only b e h);
        least = λ b e h. ⊎_elim
            (λ k. let w = p.least b m (inl (k.0, refl)) in (w.0, w.1, omega (arith, w.2, k.1)))
            (λ k. let u = c.covers.least b e k in let w = p.least b u.0 (inr u.1) in (w.0, w.1, omega (arith, w.2, u.2)))
            (cases b e h);
      };
    }

-- ---- a list from a place on

begins_from : (b : ℕ) (xs : List Pair) → ((k : ℕ) (d : Pair) → k < length xs → b ≤ (get_or xs k d).begin) → BeginsFrom b xs
begins_from b [] h = tt
begins_from b (x ∷ xs) h = (h zero x (omega arith), begins_from b xs (λ k d inside. h (suc k) d (omega (arith, inside))))

BeginsFrom-sorted : (x : Pair) (xs : List Pair) → IsNonDecreasingBy (λ (y : Pair). y.begin) (x ∷ xs) → BeginsFrom x.begin xs
BeginsFrom-sorted x xs up = begins_from x.begin xs (λ k d inside. up zero (suc k) d (omega arith) (omega (arith, inside)))

-- one step of `least_ends`
least_ends_more : (x : Pair) (xs zs : List Pair) → BeginsFrom x.begin xs → CoversFrom (Has xs) xs zs → CoversFrom (Has (x ∷ xs)) (x ∷ xs) (with_least x zs)
least_ends_more x xs zs before c = CoversFrom-put (Has xs) (Has (x ∷ xs)) x x.end xs zs before c (λ b e h. inr h) (inl (refl, refl))
    (λ b e. ⊎_elim (λ k. inl (k.0, omega (arith, k.1))) (λ k. inr k))

pub least_ends_step : (xs zs : List Pair) (i : ℕ) (x : Pair) → 0 < i → i ≤ length xs → x ≡ get_or xs (i - 1) x → IsNonDecreasingBy (λ (y : Pair). y.begin) xs → CoversFrom (Has (drop i xs)) (drop i xs) zs → CoversFrom (Has (drop (i - 1) xs)) (drop (i - 1) xs) (with_least x zs)
least_ends_step xs zs i x some within is up c =
    let e = drop_before xs i x some within is in
    rw e (least_ends_more x (drop i xs) zs (BeginsFrom-sorted x (drop i xs) (rw e at (IsNonDecreasingBy-drop (λ (y : Pair). y.begin) (i - 1) xs up))) c)
