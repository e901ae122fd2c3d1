-- A permutation that is sorted is the sorted list, but for elements that tie.
use Rattle.std.proofs.Common.{◌≡◌, ◌<◌, ℕ, ◌+◌, Bool, true, false, List, [], ◌∷◌, length, take, map, get_or, cond, refl, sym, ap, subst, ◌∙◌, arith, zero, suc, true≢false, not, ◌&&◌, drop}
use Rattle.std.specs.Prelude.{⊤}
use Rattle.std.specs.Cmp.{IsStrictWeakOrder, IsTotalOrder}
use Rattle.std.specs.List.{All, Contains, filter, sum_by, take-map}
use Rattle.std.specs.List.Sorted.{IsPermutation, IsSortedBy, IsStableBy, ties}
use Rattle.std.specs.Ordering.{is_lt, is_gt, ordering_reverse}
use Rattle.std.specs.declared.cmp.Ordering.{Ordering}
use Rattle.std.specs.declared.cmp.Ordering.TheVariants.{Less, Equal, Greater}
use Rattle.std.proofs.lemmas.List.Sums.{sum_by-cons}
use Rattle.std.proofs.lemmas.List.{take-take}
use Rattle.std.proofs.lemmas.Cmp.{tied_back, tied_itself}
use Rattle.std.proofs.lemmas.List.Elements.{All-tail, All-contains_itself}
use Rattle.std.proofs.lemmas.List.Sorted.{All-permutation, IsPermutation-refl, IsPermutation-sym, IsPermutation-cons, IsPermutation-trans, IsPermutation-middle, ranks_by, length_permutation, sum_by-IsPermutation, sorted_far}
use Rattle.first_few.specs.First.{IsFront}
use Rattle.sorted_front.specs.Front.{into, in_order, front, TiesShow, TellsApart}

module _ {X : Type 0} (order : X → X → Ordering) (total : IsTotalOrder order) where
  abbrev pub lt : X → X → Bool
  lt x y = is_lt (order x y)

  weak : IsStrictWeakOrder (λ (x : X) (y : X). is_lt (order x y))
  weak = ranks_by total (λ x. x)

  -- ---- the sort

  into_same : (x : X) (ys : List X) → IsPermutation (x ∷ ys) (into order x ys)
  into_same x [] = IsPermutation-refl _
  into_same x (y ∷ ys) = go (into_same x ys) (lt y x)
    where
      go : IsPermutation (x ∷ ys) (into order x ys) → (b : Bool) → IsPermutation (x ∷ y ∷ ys) (cond b (y ∷ into order x ys) (x ∷ y ∷ ys))
      go same true = IsPermutation-trans _ _ _ (IsPermutation-sym _ _ (IsPermutation-middle (y ∷ []) x ys)) (IsPermutation-cons y _ _ same)
      go same false = IsPermutation-refl _

  pub in_order_same : (xs : List X) → IsPermutation xs (in_order order xs)
  in_order_same [] = IsPermutation-refl _
  in_order_same (x ∷ xs) = IsPermutation-trans _ _ _ (IsPermutation-cons x _ _ (in_order_same xs)) (into_same x (in_order order xs))

  abbrev pub IsBelowHead : X → List X → Type 0
  IsBelowHead x ys = (d : X) → 0 < length ys → lt (get_or ys 0 d) x ≡ false

  sorted_cons : (x : X) (ys : List X) → IsBelowHead x ys → IsSortedBy lt ys → IsSortedBy lt (x ∷ ys)
  sorted_cons x ys head up zero d from within = head d (omega (arith, within))
  sorted_cons x ys head up (suc k) d from within =
      let e : suc k + 1 ≡ suc (k + 1) = omega arith in
      subst (λ n. lt (get_or (x ∷ ys) n d) (get_or ys k d) ≡ false) (sym e) (up k d (omega arith) (omega (arith, within)))

  sorted_tail : (x : X) (ys : List X) → IsSortedBy lt (x ∷ ys) → IsSortedBy lt ys
  sorted_tail x ys up k d from within =
      let e : suc k + 1 ≡ suc (k + 1) = omega arith in
      subst (λ n. lt (get_or (x ∷ ys) n d) (get_or ys k d) ≡ false) e (up (suc k) d (omega arith) (omega (arith, within)))

  into_sorted : (x : X) (ys : List X) → IsSortedBy lt ys → IsSortedBy lt (into order x ys)
  into_sorted x [] up = sorted_cons x [] (λ d h. absurd (omega (arith, h))) up
  into_sorted x (y ∷ ys) up = go (into_sorted x ys (sorted_tail y ys up)) (lt y x) refl
    where
      head : (ys : List X) → IsBelowHead y ys → lt y x ≡ true → IsBelowHead y (into order x ys)
      head [] low less d h = weak.one_way y x less
      head (z ∷ zs) low less d h = pick (lt z x)
        where
          pick : (b : Bool) → lt (get_or (cond b (z ∷ into order x zs) (x ∷ z ∷ zs)) 0 d) y ≡ false
          pick true = low d (omega arith)
          pick false = weak.one_way y x less

      go : IsSortedBy lt (into order x ys) → (b : Bool) → lt y x ≡ b → IsSortedBy lt (cond b (y ∷ into order x ys) (x ∷ y ∷ ys))
      go on true e = sorted_cons y (into order x ys) (head ys (λ d h. up 0 d (omega arith) (omega (arith, h))) e) on
      go on false e = sorted_cons x (y ∷ ys) (λ d h. e) up

  pub in_order_sorted : (xs : List X) → IsSortedBy lt (in_order order xs)
  in_order_sorted [] = λ k d from within. absurd (omega (arith, within))
  in_order_sorted (x ∷ xs) = into_sorted x (in_order order xs) (in_order_sorted xs)

  -- the function has the relation, whatever ties
  pub front_is : (k : ℕ) (all : List X) → IsFront order k all (front order k all)
  front_is k all = record { ranking = in_order order all; same = in_order_same all; sorted = in_order_sorted all; first = refl }

  -- ---- sorted lists of the same elements tie, one by one

  abbrev pub Tied : List X → List X → Type 0
  Tied [] [] = ⊤
  Tied (x ∷ xs) (y ∷ ys) = (order x y ≡ Equal) × Tied xs ys
  Tied [] (y ∷ ys) = ⊥
  Tied (x ∷ xs) [] = ⊥

  -- how many are less than v
  abbrev pub less_count : X → List X → ℕ
  less_count v xs = sum_by (λ x. cond (lt x v) 1 0) xs

  more : (v x : X) (xs : List X) → less_count v (x ∷ xs) ≡ cond (lt x v) 1 0 + less_count v xs
  more v x xs = sum_by-cons (λ x. cond (lt x v) 1 0) x xs

  none_less : (x : X) (xs : List X) → All (λ y. lt y x ≡ false) xs → less_count x xs ≡ 0
  none_less x [] all = refl
  none_less x (y ∷ ys) all =
      let here : less_count x (y ∷ ys) ≡ 0 + less_count x ys = more x y ys ∙ ap (λ b. cond b 1 0 + less_count x ys) (all 0 x (omega arith)) in
      let there : less_count x ys ≡ 0 = none_less x ys (All-tail (λ y. lt y x ≡ false) y ys all) in
      omega (arith, here, there)

  head_least : (x : X) (xs : List X) → IsSortedBy lt (x ∷ xs) → All (λ y. lt y x ≡ false) (x ∷ xs)
  head_least x xs up k d within = sorted_far lt weak (x ∷ xs) up 0 k d (omega arith) within

  -- what is less than no element of one list is less than the head of no other that has as many less
  no_less : (x y : X) (xs ys : List X) → All (λ z. lt z x ≡ false) xs → less_count x xs ≡ less_count x (y ∷ ys) → lt y x ≡ false
  no_less x y xs ys least same = go (lt y x) (sym (more x y ys) ∙ sym same ∙ none_less x xs least)
    where
      go : (b : Bool) → cond b 1 0 + less_count x ys ≡ 0 → b ≡ false
      go false h = refl
      go true h = absurd (omega (arith, h))

  tie : (x y : X) → lt x y ≡ false → lt y x ≡ false → order x y ≡ Equal
  tie x y h g = go (order x y) (order y x) h g (total.antisymm x y)
    where
      go : (r s : Ordering) → is_lt r ≡ false → is_lt s ≡ false → r ≡ ordering_reverse s → r ≡ Equal
      go Equal s h g e = refl
      go Less s h g e = absurd (true≢false h)
      go Greater Less h g e = absurd (true≢false g)
      go Greater Equal h g e = e
      go Greater Greater h g e = absurd (true≢false (ap is_gt e))

  pub tied : (xs ys : List X) → IsSortedBy lt xs → IsSortedBy lt ys → length ys ≡ length xs → ((v : X) → less_count v xs ≡ less_count v ys) → Tied xs ys
  tied [] [] up on long same = tt
  tied [] (y ∷ ys) up on long same = absurd (omega (arith, long))
  tied (x ∷ xs) [] up on long same = absurd (omega (arith, long))
  tied (x ∷ xs) (y ∷ ys) up on long same =
      let e : order x y ≡ Equal = tie x y
      (no_less y x (y ∷ ys) xs (head_least y ys on) (sym (same y)))
      (no_less x y (x ∷ xs) ys (head_least x xs up) (same x)) in (
        e,
        tied xs ys (sorted_tail x xs up) (sorted_tail y ys on) (omega (arith, long))
            (λ v. less (lt x v) (lt y v) (less_count v xs) (less_count v ys) (ap is_lt (total.congr x y v e)) (sym (more v x xs) ∙ same v ∙ more v y ys)),
      )
    where
      less : (a b : Bool) (m n : ℕ) → a ≡ b → cond a 1 0 + m ≡ cond b 1 0 + n → m ≡ n
      less true true m n e h = omega (arith, h)
      less false false m n e h = omega (arith, h)
      less true false m n e h = absurd (true≢false e)
      less false true m n e h = absurd (true≢false (sym e))

  pub tied_permutation : (xs ys : List X) → IsPermutation xs ys → IsSortedBy lt xs → IsSortedBy lt ys → Tied xs ys
  tied_permutation xs ys p up on = tied xs ys up on (length_permutation xs ys p) (λ v. sym (sum_by-IsPermutation (λ x. cond (lt x v) 1 0) xs ys p))

  -- lists that tie show the same
  pub shown_same : {Y : Type 0} (shows : X → Y) (all xs ys : List X) → TiesShow order shows all → All (Contains all) xs → All (Contains all) ys → Tied xs ys
      → map shows xs ≡ map shows ys
  shown_same shows all [] [] same p q t = refl
  shown_same shows all [] (y ∷ ys) same p q t = absurd t
  shown_same shows all (x ∷ xs) [] same p q t = absurd t
  shown_same shows all (x ∷ xs) (y ∷ ys) same p q t = λ i.
      same x y (p 0 x (omega arith)) (q 0 y (omega arith)) t.0 i
      ∷ shown_same shows all xs ys same (All-tail (Contains all) x xs p) (All-tail (Contains all) y ys q) t.1 i

  pub ranking_shows : {Y : Type 0} (shows : X → Y) (all ranking : List X) → TiesShow order shows all → IsPermutation all ranking → IsSortedBy lt ranking
      → map shows ranking ≡ map shows (in_order order all)
  ranking_shows shows all ranking same p up =
      let member : All (Contains all) all = All-contains_itself all in
      shown_same shows all ranking (in_order order all) same
      (All-permutation (Contains all) all ranking p member)
      (All-permutation (Contains all) all (in_order order all) (in_order_same all) member)
      (tied_permutation ranking (in_order order all) (IsPermutation-trans _ _ _ (IsPermutation-sym _ _ p) (in_order_same all)) up (in_order_sorted all))

  -- the relation gives the function, as far as ties show the same
  pub front_shows : {Y : Type 0} (shows : X → Y) (k : ℕ) (all shown : List X) → TiesShow order shows all → IsFront order k all shown
      → map shows shown ≡ map shows (front order k all)
  front_shows shows k all shown same f =
      ap (map shows) f.first ∙ sym (take-map shows k f.ranking)
      ∙ ap (take k) (ranking_shows shows all f.ranking same f.same f.sorted)
      ∙ take-map shows k (in_order order all)

  map_itself : (xs : List X) → map (λ x. x) xs ≡ xs
  map_itself [] = refl
  map_itself (x ∷ xs) = ap (λ ys. x ∷ ys) (map_itself xs)

  -- and the function itself, where what ties is the same
  pub front_only : (k : ℕ) (all shown : List X) → TellsApart order all → IsFront order k all shown → shown ≡ front order k all
  front_only k all shown same f = sym (map_itself shown) ∙ front_shows (λ x. x) k all shown same f ∙ map_itself (front order k all)

  -- ---- a stable sort is the function, whatever ties

  abbrev pub tying : X → X → Bool
  tying z x = ties lt z x

  tying_itself : (x : X) → tying x x ≡ true
  tying_itself x = go (order x x) (tied_itself total x)
    where
      go : (r : Ordering) → r ≡ Equal → (not (is_lt r) && not (is_lt r)) ≡ true
      go Equal e = refl
      go Less e = absurd (true≢false (ap is_lt e))
      go Greater e = absurd (true≢false (ap is_gt e))

  not_tying : (x y z : X) → lt y x ≡ true → tying z x ≡ true → tying z y ≡ true → ⊥
  not_tying x y z less p q =
      let before : lt y z ≡ false = second y z q in
      let behind : lt z x ≡ false = first x z p in
      true≢false (sym less ∙ weak.chain y z x before behind)
    where
      first : (x z : X) → tying z x ≡ true → lt z x ≡ false
      first x z p = go (lt z x) (lt x z) p
        where
          go : (a b : Bool) → (not a && not b) ≡ true → a ≡ false
          go false b h = refl
          go true b h = absurd (true≢false (sym h))

      second : (y z : X) → tying z y ≡ true → lt y z ≡ false
      second y z p = go (lt z y) (lt y z) p
        where
          go : (a b : Bool) → (not a && not b) ≡ true → b ≡ false
          go false false h = refl
          go false true h = absurd (true≢false (sym h))
          go true b h = absurd (true≢false (sym h))

  into_stable : (z x : X) (ys : List X) → filter (tying z) (into order x ys) ≡ filter (tying z) (x ∷ ys)
  into_stable z x [] = refl
  into_stable z x (y ∷ ys) = go (into_stable z x ys) (lt y x) refl
    where
      swap : (a b : Bool) (l m : List X) → l ≡ cond a (x ∷ m) m → ((a ≡ true) → (b ≡ true) → ⊥) → cond b (y ∷ l) l ≡ cond a (x ∷ cond b (y ∷ m) m) (cond b (y ∷ m) m)
      swap true true l m e apart = absurd (apart refl refl)
      swap true false l m e apart = e
      swap false true l m e apart = ap (λ l. y ∷ l) e
      swap false false l m e apart = e

      go : filter (tying z) (into order x ys) ≡ filter (tying z) (x ∷ ys) → (b : Bool) → lt y x ≡ b
          → filter (tying z) (cond b (y ∷ into order x ys) (x ∷ y ∷ ys)) ≡ filter (tying z) (x ∷ y ∷ ys)
      go same true e = swap (tying z x) (tying z y) (filter (tying z) (into order x ys)) (filter (tying z) ys) same (not_tying x y z e)
      go same false e = refl

  pub in_order_stable : (xs : List X) → IsStableBy lt xs (in_order order xs)
  in_order_stable [] z = refl
  in_order_stable (x ∷ xs) z = into_stable z x (in_order order xs) ∙ ap (λ l. cond (tying z x) (x ∷ l) l) (in_order_stable xs z)

  tied_tying : (x y : X) → order x y ≡ Equal → tying x y ≡ true
  tied_tying x y e = ap (λ r. not (is_lt r) && not (is_lt (order y x))) e ∙ ap (λ r. not (is_lt r)) (tied_back total x y e)

  -- lists that tie, and in which each kind of tie stands alike, are the same
  stable_same : (xs ys : List X) → Tied xs ys → ((z : X) → filter (tying z) xs ≡ filter (tying z) ys) → xs ≡ ys
  stable_same [] [] t same = refl
  stable_same [] (y ∷ ys) t same = absurd t
  stable_same (x ∷ xs) [] t same = absurd t
  stable_same (x ∷ xs) (y ∷ ys) t same = λ i. heads i ∷ stable_same xs ys t.1 tails i
    where
      heads : x ≡ y
      heads = ap (λ l. get_or l 0 x)
          (ap (λ b. cond b (x ∷ filter (tying x) xs) (filter (tying x) xs)) (sym (tying_itself x))
          ∙ same x
          ∙ ap (λ b. cond b (y ∷ filter (tying x) ys) (filter (tying x) ys)) (tied_tying x y t.0))

      drop_head : (b : Bool) (l m : List X) → cond b (x ∷ l) l ≡ cond b (x ∷ m) m → l ≡ m
      drop_head true l m e = ap (drop 1) e
      drop_head false l m e = e

      tails : (z : X) → filter (tying z) xs ≡ filter (tying z) ys
      tails z = drop_head (tying z x) _ _ (same z ∙ ap (λ h. cond (tying z h) (h ∷ filter (tying z) ys) (filter (tying z) ys)) (sym heads))

  -- what a stable sort gives
  pub stable_only : (all ranking : List X) → IsPermutation all ranking → IsSortedBy lt ranking → IsStableBy lt all ranking → ranking ≡ in_order order all
  stable_only all ranking p up stable =
      stable_same ranking (in_order order all)
      (tied_permutation ranking (in_order order all) (IsPermutation-trans _ _ _ (IsPermutation-sym _ _ p) (in_order_same all)) up (in_order_sorted all))
      (λ z. stable z ∙ sym (in_order_stable all z))

  -- ---- the order of the list, and one more

  -- the front doesn't see in which order its list stands
  pub front_same : (k : ℕ) (xs ys : List X) → IsPermutation xs ys → TellsApart order xs → front order k xs ≡ front order k ys
  front_same k xs ys p same =
      sym (front_only k xs (front order k ys) same (record {
        ranking = in_order order ys;
        same = IsPermutation-trans _ _ _ p (in_order_same ys);
        sorted = in_order_sorted ys;
        first = refl;
      }))

  take_into : (k : ℕ) (x : X) (ys : List X) → take k (into order x (take k ys)) ≡ take k (into order x ys)
  take_into zero x ys = take_none (into order x (take 0 ys)) ∙ sym (take_none (into order x ys))
    where
      take_none : (l : List X) → take 0 l ≡ []
      take_none [] = refl
      take_none (y ∷ l) = refl
  take_into (suc k) x [] = refl
  take_into (suc k) x (y ∷ ys) = go (take_into k x ys) (lt y x)
    where
      shorter : (k : ℕ) (ys : List X) → take k (y ∷ take k ys) ≡ take k (y ∷ ys)
      shorter zero ys = refl
      shorter (suc k) ys = ap (λ l. y ∷ l) (take-take k (suc k) ys (omega arith))

      go : take k (into order x (take k ys)) ≡ take k (into order x ys) → (b : Bool)
          → take (suc k) (cond b (y ∷ into order x (take k ys)) (x ∷ y ∷ take k ys)) ≡ take (suc k) (cond b (y ∷ into order x ys) (x ∷ y ∷ ys))
      go same true = ap (λ l. y ∷ l) same
      go same false = ap (λ l. x ∷ l) (shorter k ys)

  -- of one more, only the front of the others counts
  pub front_more : (k : ℕ) (x : X) (xs : List X) → front order k (x ∷ xs) ≡ take k (into order x (front order k xs))
  front_more k x xs = sym (take_into k x (in_order order xs))
