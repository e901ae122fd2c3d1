-- A set of extents that can be tested has a list, and no set has two.
use Rattle.std.proofs.Common.{◌≡◌, ℕ, zero, suc, ◌+◌, ◌<◌, ◌≤◌, ◌⊎◌, inl, inr, ⊎_elim, List, [], ◌∷◌, ◌++◌, map, filter, flat_map, refl, sym, ap, ◌∙◌, subst, arith}
use Rattle.std.specs.List.{All, AllPairs, Contains, range_with_len}
use Rattle.ri_base.specs.Pair.{Pair}
use Rattle.extent_lists.specs.Pairs.{pair, pairs}
use Rattle.extent_lists.proofs.Tested.{Tested}
use Rattle.extent_lists.specs.Listing.{IsBefore, IsListing}
use Rattle.extent_lists.specs.Rows.{Has, IsAscending, IsBeforeAll, Lists}
use Rattle.std.proofs.lemmas.List.Elements.{All-head, All-tail}
use Rattle.extent_lists.proofs.LeafLemmas.{AllPairs-head, AllPairs-tail}
use Rattle.extent_lists.proofs.FilterLemmas.{IsFiltered-filter}

-- ---- all pairs

Has-left : (xs ys : List Pair) (b e : ℕ) → Has xs b e → Has (xs ++ ys) b e
Has-left [] ys b e h = absurd h
Has-left (x ∷ xs) ys b e h = ⊎_elim (λ u. inl u) (λ u. inr (Has-left xs ys b e u)) h

Has-right : (xs ys : List Pair) (b e : ℕ) → Has ys b e → Has (xs ++ ys) b e
Has-right [] ys b e h = h
Has-right (x ∷ xs) ys b e h = inr (Has-right xs ys b e h)

before_both : (x : Pair) (xs ys : List Pair) → IsBeforeAll x xs → IsBeforeAll x ys → IsBeforeAll x (xs ++ ys)
before_both x [] ys h k = k
before_both x (y ∷ xs) ys h k = (h.0, before_both x xs ys h.1 k)

-- the pairs of one begin
row : ℕ → ℕ → ℕ → List Pair
row b from n = map (λ e. pair b e) (range_with_len from n)

rows : ℕ → ℕ → ℕ → List Pair
rows m from n = flat_map (λ b. row b 0 m) (range_with_len from n)

before_row : (x : Pair) (b from n : ℕ) → (x.begin < b) ⊎ ((x.begin ≡ b) × (x.end < from)) → IsBeforeAll x (row b from n)
unfolding row
before_row x b from zero h = tt
before_row x b from (suc n) h = (h, before_row x b (from + 1) n (⊎_elim (λ u. inl u) (λ u. inr (u.0, let less = u.1 in omega (arith, less))) h))

row_ascends : (b from n : ℕ) → IsAscending (row b from n)
unfolding row
row_ascends b from zero = tt
row_ascends b from (suc n) = (before_row (pair b from) b (from + 1) n (inr (refl, omega arith)), row_ascends b (from + 1) n)

before_rows : (x : Pair) (m from n : ℕ) → x.begin < from → IsBeforeAll x (rows m from n)
unfolding rows
before_rows x m from zero h = tt
before_rows x m from (suc n) h = before_both x (row from 0 m) (rows m (from + 1) n) (before_row x from 0 m (inl h)) (before_rows x m (from + 1) n (omega (arith, h)))

ascend_both : (b : ℕ) (xs ys : List Pair) → IsAscending xs → IsAscending ys → ((x : Pair) → x.begin ≡ b → IsBeforeAll x ys) → ((c e : ℕ) → Has xs c e → c ≡ b) → IsAscending (xs ++ ys)
ascend_both b [] ys h k before same = k
ascend_both b (x ∷ xs) ys h k before same = (before_both x xs ys h.0 (before x (same x.begin x.end (inl (refl, refl)))), ascend_both b xs ys h.1 k before (λ c e u. same c e (inr u)))

row_begins : (b from n c e : ℕ) → Has (row b from n) c e → c ≡ b
unfolding row
row_begins b from zero c e h = absurd h
row_begins b from (suc n) c e h = ⊎_elim (λ u. sym u.0) (row_begins b (from + 1) n c e) h

rows_ascend : (m from n : ℕ) → IsAscending (rows m from n)
unfolding rows
rows_ascend m from zero = tt
rows_ascend m from (suc n) = ascend_both from (row from 0 m) (rows m (from + 1) n) (row_ascends from 0 m) (rows_ascend m (from + 1) n) (λ x h. before_rows x m (from + 1) n (omega (arith, h))) (row_begins from 0 m)

row_has : (b from n e : ℕ) → from ≤ e → e < from + n → Has (row b from n) b e
unfolding row
row_has b from zero e low high = absurd (omega (arith, low, high))
row_has b from (suc n) e low high = ⊎_elim (λ h. inl (refl, h)) (λ less. inr (row_has b (from + 1) n e less (omega (arith, high)))) (first_or from e low)
  where
    first_or : (a c : ℕ) → a ≤ c → (a ≡ c) ⊎ (a + 1 ≤ c)
    first_or a c h = grind (arith, h)

rows_have : (m from n b e : ℕ) → from ≤ b → b < from + n → e < m → Has (rows m from n) b e
unfolding rows
rows_have m from zero b e low high short = absurd (omega (arith, low, high))
rows_have m from (suc n) b e low high short = ⊎_elim
    (λ h. Has-left (row from 0 m) (rows m (from + 1) n) b e (subst (λ (k : ℕ). Has (row k 0 m) b e) (sym h) (row_has b 0 m e (omega arith) (omega (arith, short)))))
    (λ less. Has-right (row from 0 m) (rows m (from + 1) n) b e (rows_have m (from + 1) n b e less (omega (arith, high)) short))
    (first_or from b low)
  where
    first_or : (a c : ℕ) → a ≤ c → (a ≡ c) ⊎ (a + 1 ≤ c)
    first_or a c h = grind (arith, h)

-- ---- the list of a set that can be tested

abbrev pub tested_list : (n : ℕ) (R : ℕ → ℕ → Type 0) → Tested n R → List Pair
tested_list n R t = filter (λ p. (t.test p.begin p.end).0) (pairs n)

pub Lists-tested : (n : ℕ) (R : ℕ → ℕ → Type 0) (t : Tested n R) → Lists R (tested_list n R t)
unfolding row rows
Lists-tested n R t =
    let f = IsFiltered-filter (λ p. (t.test p.begin p.end).0) (pairs n) in
    record {
      ascending = f.ascending (rows_ascend n 0 n);
      only = λ b e h. (t.test b e).1.0 (f.only b e h).1;
      all = λ b e h.
          let first = t.begins b e h in
          let last = t.ends b e h in
          f.all b e (rows_have n 0 n b e (omega arith) (omega (arith, first)) (omega (arith, last))) ((t.test b e).1.1 h);
    }

-- ---- no other list

before_has : (x : Pair) (xs : List Pair) (b e : ℕ) → IsBeforeAll x xs → Has xs b e → IsBefore x (pair b e)
before_has x [] b e h k = absurd k
before_has x (y ∷ ys) b e h k = ⊎_elim (λ u. at_same u.0 u.1 h.0) (λ u. before_has x ys b e h.1 u) k
  where
    at_same : y.begin ≡ b → y.end ≡ e → IsBefore x y → IsBefore x (pair b e)
    at_same p q less = ⊎_elim (λ u. inl (omega (arith, u, p))) (λ u. let first = u.0 in let last = u.1 in inr (first ∙ p, omega (arith, last, q))) less

never_both : (x y : Pair) → IsBefore x y → IsBefore y x → ⊥
never_both x y h k = grind (arith, h, k)

never_itself : (x : Pair) (b e : ℕ) → x.begin ≡ b → x.end ≡ e → IsBefore x (pair b e) → ⊥
never_itself x b e p q h = grind (arith, p, q, h)

same_pair : (x y : Pair) → x.begin ≡ y.begin → x.end ≡ y.end → x ≡ y
same_pair x y p q = ap (λ (n : ℕ). pair n x.end) p ∙ ap (λ (n : ℕ). pair y.begin n) q

first_same : (x y : Pair) (xs ys : List Pair) → IsBeforeAll x xs → IsBeforeAll y ys → Has (y ∷ ys) x.begin x.end → Has (x ∷ xs) y.begin y.end → x ≡ y
first_same x y xs ys h k in_ys in_xs = ⊎_elim
    (λ u. sym (same_pair y x u.0 u.1))
    (λ later. ⊎_elim
    (λ u. same_pair x y u.0 u.1)
    (λ other. absurd (never_both x y (before_has x xs y.begin y.end h other) (before_has y ys x.begin x.end k later)))
    in_xs)
    in_ys

tail_has : (x y : Pair) (xs ys : List Pair) → x ≡ y → IsBeforeAll x xs → ((b e : ℕ) → Has (x ∷ xs) b e → Has (y ∷ ys) b e) → (b e : ℕ) → Has xs b e → Has ys b e
tail_has x y xs ys same h sub b e found = ⊎_elim
    (λ u. absurd (never_itself x b e (ap (λ (z : Pair). z.begin) same ∙ u.0) (ap (λ (z : Pair). z.end) same ∙ u.1) (before_has x xs b e h found)))
    (λ u. u)
    (sub b e (inr found))

same_lists : (xs ys : List Pair) → IsAscending xs → IsAscending ys → ((b e : ℕ) → Has xs b e → Has ys b e) → ((b e : ℕ) → Has ys b e → Has xs b e) → xs ≡ ys
same_lists [] [] h k sub sup = refl
same_lists [] (y ∷ ys) h k sub sup = absurd (sup y.begin y.end (inl (refl, refl)))
same_lists (x ∷ xs) [] h k sub sup = absurd (sub x.begin x.end (inl (refl, refl)))
same_lists (x ∷ xs) (y ∷ ys) h k sub sup =
    let same : x ≡ y = first_same x y xs ys h.0 k.0 (sub x.begin x.end (inl (refl, refl))) (sup y.begin y.end (inl (refl, refl))) in
    let rest : xs ≡ ys = same_lists xs ys h.1 k.1 (tail_has x y xs ys same h.0 sub) (tail_has y x ys xs (sym same) k.0 sup) in
    ap (λ (z : Pair). z ∷ xs) same ∙ ap (λ zs. y ∷ zs) rest

pub ascending_from : (xs : List Pair) → AllPairs IsBefore xs → IsAscending xs
ascending_from [] h = tt
ascending_from (x ∷ xs) h = (before_all xs (AllPairs-head IsBefore x xs h), ascending_from xs (AllPairs-tail IsBefore x xs h))
  where
    before_all : (ys : List Pair) → All (IsBefore x) ys → IsBeforeAll x ys
    before_all [] u = tt
    before_all (y ∷ ys) u = (All-head (IsBefore x) y ys u, before_all ys (All-tail (IsBefore x) y ys u))

has_from : (xs : List Pair) (b e : ℕ) → Contains xs (pair b e) → Has xs b e
has_from [] b e (k, inside, is) = absurd (omega (arith, inside))
has_from (x ∷ xs) b e (zero, inside, is) = inl (ap (λ (z : Pair). z.begin) is, ap (λ (z : Pair). z.end) is)
has_from (x ∷ xs) b e (suc k, inside, is) = inr (has_from xs b e (k, omega (arith, inside), is))

all_from : (R : ℕ → ℕ → Type 0) (xs : List Pair) → All (λ x. R x.begin x.end) xs → (b e : ℕ) → Has xs b e → R b e
all_from R [] h b e found = absurd found
all_from R (x ∷ xs) h b e found = ⊎_elim
    (λ u. subst (λ (n : ℕ). R n e) u.0 (subst (λ (n : ℕ). R x.begin n) u.1 (All-head (λ (z : Pair). R z.begin z.end) x xs h)))
    (all_from R xs (All-tail (λ (z : Pair). R z.begin z.end) x xs h) b e)
    found

-- the lists of one set are the same
pub same_list : (R : ℕ → ℕ → Type 0) (xs ys : List Pair) → Lists R xs → Lists R ys → xs ≡ ys
same_list R xs ys l m = same_lists xs ys l.ascending m.ascending (λ b e u. m.all b e (l.only b e u)) (λ b e u. l.all b e (m.only b e u))

pub Lists-listing : (R : ℕ → ℕ → Type 0) (xs : List Pair) → IsListing R xs → Lists R xs
Lists-listing R xs h = record {
  ascending = ascending_from xs h.ascending;
  only = all_from R xs h.only;
  all = λ b e u. has_from xs b e (h.all b e u);
}
