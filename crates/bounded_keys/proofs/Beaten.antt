-- What is passed over by its bounds isn't among the first k.
use Rattle.std.proofs.Common.{◌≡◌, ◌<◌, ◌≤◌, ℕ, ◌+◌, Bool, true, false, List, [], ◌∷◌, ◌++◌, length, map, get_or, cond, refl, sym, ap, subst, ◌∙◌, arith, zero, suc, ⊎_elim, nat_lt, nat_le, ◌-◌, take, drop, length-drop}
use Rattle.std.specs.BinaryHeap.{IsUpperBound}
use Rattle.std.specs.Cmp.{IsTotalOrder, IsStrictWeakOrder}
use Rattle.std.specs.List.{All, count_by}
use Rattle.std.specs.List.Sorted.{IsPermutation}
use Rattle.std.specs.Ordering.{is_lt}
use Rattle.std.specs.declared.cmp.Ordering.{Ordering}
use Rattle.std.proofs.lemmas.Bool.{cases_Bool, cases_lt, ltb-true, lt-ltb, le-ltb, ltb-false, leb-true, le-leb, lt-leb, false_from_ne_true, both_ways}
use Rattle.std.proofs.lemmas.List.Elements.{All-cons, All-head, All-nil, All-tail, All-map, All-weaker, All-from_recursion, recursion_from_All}
use Rattle.std.proofs.lemmas.List.{get_or-take, get_or-drop, length-take, get_or_default}
use Rattle.std.proofs.lemmas.List.Sums.{count_by-le-length, sum_by-take-drop}
use Rattle.std.proofs.lemmas.List.Sorted.{IsPermutation-append_comm, IsPermutation-append_left, IsPermutation-cons, IsPermutation-map, IsPermutation-middle, IsPermutation-refl, IsPermutation-trans, IsPermutation-sym, All-permutation, ranks_by, length_permutation}
use Rattle.first_few.specs.First.{AreFirst}
use Rattle.first_few.proofs.FirstLemmas.{AreFirst-kept, AreFirst-same, NotLess}
use Rattle.bounded_keys.specs.Bounds.{AreEnclosed, IsKthLeast, is_beaten}
use Rattle.bounded_keys.proofs.Counts.{bit, count_append, count_cons, count_permutation, count_none, count_all, count_weaker, count_map, count_but_one, some_fails, All-append_right}

-- ---- entries of which k are less

module _ {Y : Type 0} (order : Y → Y → Ordering) (total : IsTotalOrder order) where
  abbrev pub less : Y → Y → Bool
  less x y = is_lt (order x y)

  weak : IsStrictWeakOrder (λ (x : Y) (y : Y). is_lt (order x y))
  weak = ranks_by total (λ x. x)

  less_trans : (a b c : Y) → less a b ≡ true → less b c ≡ true → less a c ≡ true
  less_trans a b c f h = ⊎_elim (λ e. e) (λ e. absurd (both_ways (less a b) (weak.chain a c b e (weak.one_way b c h)) f)) (cases_Bool (less a c))

  less_self : (a : Y) → less a a ≡ false
  less_self a = ⊎_elim (λ e. weak.one_way a a e) (λ e. e) (cases_Bool (less a a))

  count_rest : (k : ℕ) (all held : List Y) (f : AreFirst order k all held) (i : ℕ) (d : Y) → i < length held → count_by (λ y. less y (get_or held i d)) f.others ≡ 0
  count_rest k all held f i d h = count_none (λ y. less y (get_or held i d)) f.others
      (All-weaker (λ r. IsUpperBound order r held) (λ r. less r (get_or held i d) ≡ false) (λ r up. All-from_recursion (NotLess order r) held up i d h) f.others f.apart)

  count_first : (k : ℕ) (all held : List Y) (p : Y → Bool) (f : AreFirst order k all held) → count_by p all ≡ count_by p held + count_by p f.others
  count_first k all held p f = sym (count_permutation p all (held ++ f.others) f.split) ∙ count_append p held f.others

  -- fewer than k are less than one of the first k
  pub few_less : (k : ℕ) (all held : List Y) → AreFirst order k all held → (i : ℕ) (d : Y) → i < length held → count_by (λ y. less y (get_or held i d)) all < k
  few_less k all held f i d h =
      let p : Y → Bool = λ y. less y (get_or held i d) in
      omega (arith, count_first k all held p f, count_rest k all held f i d h, count_but_one p held i d h (less_self (get_or held i d)), f.few)

  above_held : (k : ℕ) (all held : List Y) (g : Y) → AreFirst order k all held → k ≤ count_by (λ y. less y g) all → All (λ h. less g h ≡ false) held
  above_held k all held g f many i d h = false_from_ne_true (less g (get_or held i d)) (λ e.
      let weaker = count_weaker (λ y. less y g) (λ y. less y (get_or held i d)) all (λ j c within l. less_trans _ g _ l e) in
      omega (arith, many, weaker, few_less k all held f i d h))

  held_full : (k : ℕ) (all held : List Y) (p : Y → Bool) → AreFirst order k all held → k ≤ count_by p all → k ≤ length held
  held_full k all held p f many = ⊎_elim
      (λ room. let e : count_by p f.others ≡ 0 = ap (count_by p) (f.full room) in
      omega (arith, many, count_first k all held p f, e, count_by-le-length p held))
      (λ long. long)
      (cases_lt (length held) k)

  -- where k are less than g, it may come and go
  pub first_beaten : (k : ℕ) (all held : List Y) (g : Y) → k ≤ count_by (λ y. less y g) all → AreFirst order k all held → AreFirst order k (g ∷ all) held
  first_beaten k all held g many f =
      AreFirst-kept order k all held g (held_full k all held (λ y. less y g) f many) (recursion_from_All (NotLess order g) held (above_held k all held g f many)) f

  -- one of some items that is less than none of the others
  greatest : (x : Y) (xs : List Y) → (g : Y) × (rest : List Y) × IsPermutation (x ∷ xs) (g ∷ rest) × All (λ y. less g y ≡ false) rest
  greatest x [] = (x, [], IsPermutation-refl (x ∷ []), All-nil _)
  greatest x (y ∷ ys) =
      let r = greatest y ys in
      ⊎_elim
      (λ l. (
        r.0,
        x ∷ r.1,
        IsPermutation-trans _ _ _ (IsPermutation-cons x _ _ r.2) (IsPermutation-middle (x ∷ []) r.0 r.1),
        All-cons (λ z. less r.0 z ≡ false) x r.1 (weak.one_way x r.0 l) r.3,
      ))
      (λ e. (
        x,
        r.0 ∷ r.1,
        IsPermutation-cons x _ _ r.2,
        All-cons (λ z. less x z ≡ false) r.0 r.1 e (All-weaker (λ z. less r.0 z ≡ false) (λ z. less x z ≡ false) (λ z h. weak.chain x r.0 z e h) r.1 r.3),
      ))
      (cases_Bool (less x r.0))

  -- where k of all are less than each of some items, these may come and go
  behind_some : (n k : ℕ) (taken held more : List Y) → length more ≡ n → All (λ g. k ≤ count_by (λ y. less y g) (more ++ taken)) more → AreFirst order k taken held → AreFirst order k (more ++ taken) held
  behind_some n k taken held [] e many f = f
  behind_some zero k taken held (x ∷ xs) e many f = absurd (omega (arith, e))
  behind_some (suc n) k taken held (x ∷ xs) e many f =
      let r = greatest x xs in
      let moved = IsPermutation-append_left taken (x ∷ xs) (r.0 ∷ r.1) r.2 in
      let each = All-permutation (λ g. k ≤ count_by (λ y. less y g) (x ∷ xs ++ taken)) (x ∷ xs) (r.0 ∷ r.1) r.2 many in
      let inner = behind_some n k taken held r.1 (omega (arith, e, length_permutation (x ∷ xs) (r.0 ∷ r.1) r.2))
      (λ i d within. without r.0 (r.1 ++ taken) (get_or r.1 i d) moved (r.3 i d within)
      (All-tail (λ g. k ≤ count_by (λ y. less y g) (x ∷ xs ++ taken)) r.0 r.1 each i d within)) f in
      AreFirst-same order k (r.0 ∷ (r.1 ++ taken)) (x ∷ xs ++ taken) held (IsPermutation-sym _ _ moved)
      (first_beaten k (r.1 ++ taken) held r.0 (without r.0 (r.1 ++ taken) r.0 moved (less_self r.0) (All-head (λ g. k ≤ count_by (λ y. less y g) (x ∷ xs ++ taken)) r.0 r.1 each)) inner)
    where
      without : (g : Y) (rest : List Y) (h : Y) → IsPermutation (x ∷ xs ++ taken) (g ∷ rest) → less g h ≡ false → k ≤ count_by (λ y. less y h) (x ∷ xs ++ taken) → k ≤ count_by (λ y. less y h) rest
      without g rest h moved e many' =
          let b : bit (less g h) ≡ 0 = ap bit e in
          omega (arith, b, many', count_permutation (λ y. less y h) (x ∷ xs ++ taken) (g ∷ rest) moved, count_cons (λ y. less y h) g rest)

  pub first_all_behind : (k : ℕ) (taken held more : List Y) → All (λ g. k ≤ count_by (λ y. less y g) (more ++ taken)) more → AreFirst order k taken held → AreFirst order k (more ++ taken) held
  first_all_behind k taken held more many f = behind_some (length more) k taken held more refl many f

-- ---- the first k of what is left, where k of all are less than each of the others

module _ {X Y : Type 0} (order : Y → Y → Ordering) (total : IsTotalOrder order) (shown : X → Y) where
  map_append : (xs ys : List X) → map shown (xs ++ ys) ≡ map shown xs ++ map shown ys
  map_append [] ys = refl
  map_append (x ∷ xs) ys = ap (λ zs. shown x ∷ zs) (map_append xs ys)

  pub first_of_behind : (k : ℕ) (all taken passed : List X) (held : List Y) → IsPermutation all (taken ++ passed)
      → All (λ x. k ≤ count_by (λ y. is_lt (order y (shown x))) (map shown all)) passed → AreFirst order k (map shown taken) held → AreFirst order k (map shown all) held
  first_of_behind k all taken passed held split behind f =
      let moved = IsPermutation-trans _ _ _ (subst (λ zs. IsPermutation (map shown all) zs) (map_append taken passed) (IsPermutation-map shown _ _ split))
      (IsPermutation-append_comm (map shown taken) (map shown passed)) in
      AreFirst-same order k (map shown passed ++ map shown taken) (map shown all) held (IsPermutation-sym _ _ moved)
      (first_all_behind order total k (map shown taken) held (map shown passed)
      (All-map (λ z. k ≤ count_by (λ y. is_lt (order y z)) (map shown passed ++ map shown taken)) shown passed
      (λ i d within. omega (arith, behind i d within, count_permutation (λ y. is_lt (order y (shown (get_or passed i d)))) (map shown all) (map shown passed ++ map shown taken) moved))) f)

-- ---- bounds that are beaten

module _ {X : Type 0} (lo up key : X → ℕ) where
  beaten_many : (k : ℕ) (xs : List X) (n : ℕ) → is_beaten up k xs n ≡ true → k ≤ count_by (λ x. nat_lt (up x) n) xs
  beaten_many k xs n e = leb-true _ _ e

  pub beaten_from : (k : ℕ) (xs : List X) (n : ℕ) → k ≤ count_by (λ x. nat_lt (up x) n) xs → is_beaten up k xs n ≡ true
  beaten_from k xs n h = le-leb _ _ h

  -- more bounds beat as much, and a greater number is beaten too
  pub beaten_more : (k : ℕ) (xs ys : List X) (m n : ℕ) → m ≤ n → is_beaten up k xs m ≡ true → is_beaten up k (xs ++ ys) n ≡ true
  beaten_more k xs ys m n h e = beaten_from k (xs ++ ys) n
      (let w = count_weaker (λ x. nat_lt (up x) m) (λ x. nat_lt (up x) n) xs (λ i d within l. lt-ltb _ _ (omega (arith, h, ltb-true _ _ l))) in
      omega (arith, beaten_many k xs m e, w, count_append (λ x. nat_lt (up x) n) xs ys))

  pub beaten_permutation : (k : ℕ) (xs ys : List X) (n : ℕ) → IsPermutation xs ys → is_beaten up k xs n ≡ is_beaten up k ys n
  beaten_permutation k xs ys n p = ap (nat_le k) (sym (count_permutation (λ x. nat_lt (up x) n) xs ys p))

  -- ---- the order of the keys

  module _ {Y : Type 0} (order : Y → Y → Ordering) (total : IsTotalOrder order) (shown : X → Y)
      (by_key : (a b : X) → key a < key b → is_lt (order (shown a) (shown b)) ≡ true) where
    -- what is beaten has k that are less
    many_less : (k : ℕ) (xs : List X) (g : X) → AreEnclosed lo up key xs → lo g ≤ key g → is_beaten up k xs (lo g) ≡ true
        → k ≤ count_by (λ y. is_lt (order y (shown g))) (map shown xs)
    many_less k xs g enclosed low e =
        let w = count_weaker (λ x. nat_lt (up x) (lo g)) (λ x. is_lt (order (shown x) (shown g))) xs
        (λ i d within l. by_key _ _ (omega (arith, ltb-true _ _ l, (enclosed i d within).1, low))) in
        omega (arith, beaten_many k xs (lo g) e, w, count_map shown (λ y. is_lt (order y (shown g))) xs)

    -- the first k of those taken are the first k of all, where each of those passed was beaten
    pub first_of_rest : (k : ℕ) (all taken passed : List X) (held : List Y) → AreEnclosed lo up key all → IsPermutation all (taken ++ passed)
        → All (λ x. is_beaten up k all (lo x) ≡ true) passed → AreFirst order k (map shown taken) held → AreFirst order k (map shown all) held
    first_of_rest k all taken passed held enclosed split beaten f =
        let both = All-permutation (λ x. (lo x ≤ key x) × (key x ≤ up x)) all (taken ++ passed) split enclosed in
        let right = All-append_right (λ x. (lo x ≤ key x) × (key x ≤ up x)) taken passed both in
        first_of_behind order total shown k all taken passed held split
        (λ i d within. many_less k all (get_or passed i d) enclosed (right i d within).0 (beaten i d within)) f

    -- none of the first k is beaten
    pub first_not_beaten : (k : ℕ) (all : List X) (held : List Y) → AreEnclosed lo up key all → AreFirst order k (map shown all) held
        → (x : X) (i : ℕ) → i < length held → get_or held i (shown x) ≡ shown x → lo x ≤ key x → is_beaten up k all (lo x) ≡ false
    first_not_beaten k all held enclosed f x i within is low = false_from_ne_true (is_beaten up k all (lo x)) (λ e.
        let few = few_less order total k (map shown all) held f i (shown x) within in
        let few' : count_by (λ y. is_lt (order y (shown x))) (map shown all) < k = subst (λ z. count_by (λ y. is_lt (order y z)) (map shown all) < k) is few in
        omega (arith, few', many_less k all x enclosed low e))

-- ---- the first k by an order along which the upper bounds rise

module _ {X : Type 0} (order : X → X → Ordering) (total : IsTotalOrder order) (up : X → ℕ) (rises : (a b : X) → is_lt (order a b) ≡ false → up b ≤ up a) where
  beats : List X → ℕ → ℕ
  beats xs n = count_by (λ x. nat_lt (up x) n) xs

  -- the first k beat what all beat
  pub beaten_by_first : (k : ℕ) (all held : List X) (n : ℕ) → AreFirst order k all held → is_beaten up k all n ≡ is_beaten up k held n
  beaten_by_first k all held n f = ⊎_elim
      (λ room. let e : count_by p f.others ≡ 0 = ap (count_by p) (f.full room) in
      ap (nat_le k) (let g : count_by p all ≡ count_by p held = omega (arith, parts, e) in g))
      (λ long. ⊎_elim
      (λ few.
      let s = some_fails p held (omega (arith, few, long)) in
      let none = count_none p f.others (λ i d within. le-ltb _ _
      (let low = ltb-false _ _ (s.2 d) in
      let far = rises (get_or f.others i d) (get_or held s.0 d) (All-from_recursion (NotLess order (get_or f.others i d)) held (f.apart i d within) s.0 d s.1) in
      omega (arith, low, far))) in
      ap (nat_le k) (let g : count_by p all ≡ count_by p held = omega (arith, parts, none) in g))
      (λ many. le-leb _ _ (omega (arith, many, parts)) ∙ sym (le-leb _ _ many))
      (cases_lt (count_by p held) k))
      (cases_lt (length held) k)
    where
      p : X → Bool
      p x = nat_lt (up x) n

      parts : count_by (λ x. nat_lt (up x) n) all ≡ count_by (λ x. nat_lt (up x) n) held + count_by (λ x. nat_lt (up x) n) f.others
      parts = count_first order total k all held (λ x. nat_lt (up x) n) f

  pub beaten_room : (k : ℕ) (held : List X) (n : ℕ) → length held < k → is_beaten up k held n ≡ false
  beaten_room k held n room = lt-leb _ _ (omega (arith, room, count_by-le-length (λ x. nat_lt (up x) n) held))

  -- k that are held beat what the greatest of them beats
  pub beaten_by_top : (k : ℕ) (held : List X) (top : X) (n : ℕ) → length held ≡ k → 0 < length held → top ≡ get_or held 0 top → IsUpperBound order top held
      → is_beaten up k held n ≡ nat_lt (up top) n
  beaten_by_top k held top n full some is above = ⊎_elim
      (λ low. le-leb _ _ (let e = count_all p held (λ i d within. lt-ltb _ _ (omega (arith, low, high i d within))) in omega (arith, full, e)) ∙ sym (lt-ltb _ _ low))
      (λ far. lt-leb _ _ (let e = count_but_one p held 0 top some (subst (λ z. nat_lt (up z) n ≡ false) is (le-ltb _ _ far)) in omega (arith, full, e)) ∙ sym (le-ltb _ _ far))
      (cases_lt (up top) n)
    where
      p : X → Bool
      p x = nat_lt (up x) n

      high : All (λ y. up y ≤ up top) held
      high = All-weaker (NotLess order top) (λ y. up y ≤ up top) (λ y e. rises top y e) held (All-from_recursion (NotLess order top) held above)

-- ---- the k-th least

beaten_by_kth_list : (k : ℕ) (xs : List ℕ) (n v : ℕ) → IsKthLeast k xs v → nat_le k (count_by (λ u. nat_lt u n) xs) ≡ nat_lt v n
beaten_by_kth_list k xs n v h = ⊎_elim
    (λ low. le-leb _ _ (let e = count_all p (take k h.sorted) (λ i d within. lt-ltb _ _
    (let l : i < k = omega (arith, within, length-take k h.sorted) in
    let g : get_or (take k h.sorted) i d ≡ get_or h.sorted i d = get_or-take k h.sorted i d l in
    omega (arith, g, low, h.at, h.some, long, last d, h.rises i (k - 1) d (omega (arith, l)) (omega (arith, h.some, long))))) in
    omega (arith, e, parts k, moved, long, length-take k h.sorted)) ∙ sym (lt-ltb _ _ low))
    (λ far. lt-leb _ _ (let e = count_none p (drop (k - 1) h.sorted) (λ i d within. le-ltb _ _
    (let g : get_or (drop (k - 1) h.sorted) i d ≡ get_or h.sorted (k - 1 + i) d = get_or-drop (k - 1) h.sorted i d in
    omega (arith, g, far, h.at, h.some, last d, h.rises (k - 1) (k - 1 + i) d (omega arith) (omega (arith, within, length-drop (k - 1) h.sorted))))) in
    omega (arith, e, parts (k - 1), moved, h.some, count_by-le-length p (take (k - 1) h.sorted), length-take (k - 1) h.sorted)) ∙ sym (le-ltb _ _ far))
    (cases_lt v n)
  where
    p : ℕ → Bool
    p u = nat_lt u n

    long : k ≤ length h.sorted
    long = omega (arith, h.enough, length_permutation xs h.sorted h.same)

    moved : count_by (λ u. nat_lt u n) h.sorted ≡ count_by (λ u. nat_lt u n) xs
    moved = count_permutation (λ u. nat_lt u n) xs h.sorted h.same

    parts : (i : ℕ) → count_by (λ u. nat_lt u n) (take i h.sorted) + count_by (λ u. nat_lt u n) (drop i h.sorted) ≡ count_by (λ u. nat_lt u n) h.sorted
    parts i = sum_by-take-drop (λ u. cond (nat_lt u n) 1 0) h.sorted i

    last : (d : ℕ) → get_or h.sorted (k - 1) d ≡ get_or h.sorted (k - 1) 0
    last d = get_or_default h.sorted (k - 1) d 0 (omega (arith, h.some, long))

-- what is beaten is greater than the k-th least upper bound
pub beaten_by_kth : {X : Type 0} (up : X → ℕ) (k : ℕ) (xs : List X) (n v : ℕ) → IsKthLeast k (map up xs) v → is_beaten up k xs n ≡ nat_lt v n
beaten_by_kth up k xs n v h = ap (nat_le k) (sym (count_map up (λ u. nat_lt u n) xs)) ∙ beaten_by_kth_list k (map up xs) n v h
