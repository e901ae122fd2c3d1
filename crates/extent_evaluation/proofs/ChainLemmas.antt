-- chains of extents
use Rattle.std.proofs.Common.{◌≡◌, ℕ, zero, suc, ◌-◌, ◌<◌, ◌≤◌, ◌⊎◌, inl, inr, ⊎_elim, Some, None, List, [], ◌∷◌, length, drop, get_or, refl, sym, ap, subst, arith, length-drop}
use Rattle.std.specs.List.{Contains}
use Rattle.std.specs.List.Sorted.{IsPermutation}
use Rattle.std.proofs.lemmas.List.Sorted.{Contains-permutation, IsPermutation-sym}
use Rattle.ri_base.specs.Pair.{Pair}
use Rattle.extent_lists.specs.Operators.{Follows, IsChain, IsLeastEnd, Joins}
use Rattle.extent_evaluation.specs.Covers.{Covers, Finds, IsLeastOf}
use Rattle.extent_lists.specs.Rows.{Has, Lists, sets}
use Rattle.extent_evaluation.proofs.CoverLemmas.{Lists-covers}
use Rattle.extent_lists.proofs.RowLemmas.{drop_before}
use Rattle.extent_lists.proofs.ListingLemmas.{Contains-has}

module _ (n : ℕ) (x : Pair) (xs later : List Pair) where
  joins_on : (b e : ℕ) → Joins n (Has xs) (Has later) b e → Joins n (Has (x ∷ xs)) (Has later) b e
  joins_on b e h = (h.0, h.1, inr h.2, h.3, h.4)

  joins_cases : (b e : ℕ) → Joins n (Has (x ∷ xs)) (Has later) b e → ((x.begin ≡ b) × ((begin : ℕ) × Follows n x.end begin × Has later begin e)) ⊎ Joins n (Has xs) (Has later) b e
  joins_cases b e h = ⊎_elim
      (λ k. inl (k.0, (h.1, subst (λ (v : ℕ). Follows n v h.1) (sym k.1) h.3, h.4)))
      (λ k. inr (h.0, h.1, k, h.3, h.4))
      h.2

  never : {m : ℕ} → None ≡ Some m → ⊥
  never h = cc

  same_some : (p q : ℕ) → Some p ≡ Some q → p ≡ q
  same_some p q h = cc

  -- no later extent follows x
  finds_passed : (zs : List Pair) → IsLeastOf (Follows n x.end) later None → Finds (Joins n (Has xs) (Has later)) zs → Finds (Joins n (Has (x ∷ xs)) (Has later)) zs
  finds_passed zs none f = record {
    only = λ b e h. joins_on b e (f.only b e h);
    least = λ b e h. ⊎_elim (λ k. absurd (never (none.least k.1.0 e k.1.1 k.1.2).1)) (λ k. f.least b e k) (joins_cases b e h);
  }

  -- m is the least end of those that follow x
  finds_more : (zs : List Pair) (m : ℕ) → IsLeastOf (Follows n x.end) later (Some m) → Finds (Joins n (Has xs) (Has later)) zs → Finds (Joins n (Has (x ∷ xs)) (Has later)) (record { begin = x.begin; end = m } ∷ zs)
  finds_more zs m found f =
      let w = found.only m refl in
      record {
        only = λ b e. ⊎_elim
            (λ k. (x.end, w.0, inl (k.0, refl), w.1, subst (λ (v : ℕ). Has later w.0 v) k.1 w.2))
            (λ k. joins_on b e (f.only b e k));
        least = λ b e h. ⊎_elim
            (λ k. let u = found.least k.1.0 e k.1.1 k.1.2 in let s : m ≡ u.0 = same_some m u.0 u.1 in (m, inl (k.0, refl), omega (arith, s, u.2)))
            (λ k. let u = f.least b e k in (u.0, inr u.1, u.2))
            (joins_cases b e h);
      }

-- the same at a place of the list
module _ (n : ℕ) (xs later zs : List Pair) (i : ℕ) (x : Pair) (some : 0 < i) (within : i ≤ length xs) (is : x ≡ get_or xs (i - 1) x)
    (f : Finds (Joins n (Has (drop i xs)) (Has later)) zs) where
  pub finds_passed_step : IsLeastOf (Follows n x.end) later None → Finds (Joins n (Has (drop (i - 1) xs)) (Has later)) zs
  finds_passed_step none = rw (drop_before xs i x some within is) (finds_passed n x (drop i xs) later zs none f)

  pub finds_more_step : (m : ℕ) → IsLeastOf (Follows n x.end) later (Some m) → Finds (Joins n (Has (drop (i - 1) xs)) (Has later)) (record { begin = x.begin; end = m } ∷ zs)
  finds_more_step m found = rw (drop_before xs i x some within is) (finds_more n x (drop i xs) later zs m found f)

-- ---- the same extents in another order

has_contains : (xs : List Pair) (b e : ℕ) → Contains xs (record { begin = b; end = e }) → Has xs b e
has_contains [] b e (k, inside, is) = absurd (omega (arith, inside))
has_contains (x ∷ xs) b e (zero, inside, is) = inl (ap (λ (y : Pair). y.begin) is, ap (λ (y : Pair). y.end) is)
has_contains (x ∷ xs) b e (suc k, inside, is) = inr (has_contains xs b e (k, omega (arith, inside), is))

Has-permutation : (xs ys : List Pair) → IsPermutation xs ys → (b e : ℕ) → Has xs b e → Has ys b e
Has-permutation xs ys p b e h = has_contains ys b e (Contains-permutation xs ys (record { begin = b; end = e }) p (Contains-has xs b e h))

pub Covers-joined : (n : ℕ) (xs firsts later found sorted zs : List Pair) → IsPermutation xs firsts → Finds (Joins n (Has firsts) (Has later)) found → IsPermutation found sorted → Covers (Has sorted) zs → Covers (Joins n (Has xs) (Has later)) zs
Covers-joined n xs firsts later found sorted zs p f q c = record {
  rising = c.rising;
  only = λ b e h.
      let w = f.only b e (Has-permutation sorted found (IsPermutation-sym found sorted q) b e (c.only b e h)) in
      (w.0, w.1, Has-permutation firsts xs (IsPermutation-sym xs firsts p) b w.0 w.2, w.3, w.4);
  least = λ b e h.
      let w = f.least b e (h.0, h.1, Has-permutation xs firsts p b h.0 h.2, h.3, h.4) in
      let u = c.least b w.0 (Has-permutation found sorted q b w.0 w.1) in
      (u.0, u.1, omega (arith, u.2, w.2));
}

-- ---- a chain of several lists

Covers-chain : (n : ℕ) (l : List Pair) (ls : List (List Pair)) (cs zs : List Pair) → 0 < length ls → Covers (IsChain n (sets ls)) cs → Covers (Joins n (Has l) (Has cs)) zs → Covers (IsChain n (sets (l ∷ ls))) zs
Covers-chain n l [] cs zs some c j = absurd (omega (arith, some))
Covers-chain n l (m ∷ ls) cs zs some c j = record {
  rising = j.rising;
  only = λ b e h. let w = j.only b e h in (w.0, w.1, w.2, w.3, c.only w.1 e w.4);
  least = λ b e h. let w = c.least h.1 e h.4 in let u = j.least b w.0 (h.0, h.1, h.2, h.3, w.1) in (u.0, u.1, omega (arith, w.2, u.2));
}

pub Covers-chain_step : (n : ℕ) (ls : List (List Pair)) (i : ℕ) (l cs zs : List Pair) → 0 < i → i < length ls → l ≡ get_or ls (i - 1) l → Covers (IsChain n (sets (drop i ls))) cs → Covers (Joins n (Has l) (Has cs)) zs → Covers (IsChain n (sets (drop (i - 1) ls))) zs
Covers-chain_step n ls i l cs zs some within is c j =
    rw (drop_before ls i l some (omega (arith, within)) is) (Covers-chain n l (drop i ls) cs zs (omega (arith, length-drop i ls, within)) c j)

pub Lists-chain : (n : ℕ) (ls : List (List Pair)) (zs : List Pair) → Covers (IsChain n (sets ls)) zs → Lists (IsLeastEnd (IsChain n (sets ls))) zs
Lists-chain n ls zs c = Lists-covers _ zs c
