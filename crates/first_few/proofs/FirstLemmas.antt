-- What is held stays the first of all when one more comes, and sorted it is the front of all.
use Rattle.std.proofs.Common.{◌≡◌, ◌<◌, ◌≤◌, ℕ, ◌+◌, Bool, true, false, List, [], ◌∷◌, ◌++◌, length, take, get_or, cond, refl, sym, ap, subst, ◌∙◌, arith, append-nil, ⊎_elim, zero, suc}
use Rattle.std.specs.BinaryHeap.{IsUpperBound}
use Rattle.std.specs.Cmp.{IsStrictWeakOrder, IsTotalOrder}
use Rattle.std.specs.List.{All}
use Rattle.std.specs.List.Sorted.{IsPermutation, IsSorted, IsSortedBy}
use Rattle.std.specs.Ordering.{is_lt}
use Rattle.std.specs.declared.cmp.Ordering.{Ordering}
use Rattle.std.proofs.Math.Seq.{take-append_seam}
use Rattle.std.proofs.lemmas.Bool.{cases_lt}
use Rattle.std.proofs.lemmas.List.{take_all}
use Rattle.std.proofs.lemmas.List.Elements.{All-cons, All-nil, All-weaker, All-from_recursion, recursion_from_All}
use Rattle.std.proofs.lemmas.List.Sorted.{All-permutation, IsPermutation-refl, IsPermutation-sym, IsPermutation-cons, IsPermutation-trans, IsPermutation-middle, IsPermutation-append_left, IsPermutation-append_right, ranks_by, length_permutation}
use Rattle.first_few.specs.First.{AreFirst, IsFront}

module _ {X : Type 0} (order : X → X → Ordering) where
  abbrev pub less : X → X → Bool
  less x y = is_lt (order x y)

  -- x is less than none that is held
  abbrev pub NotBelow : List X → X → Type 0
  NotBelow held x = IsUpperBound order x held

  abbrev pub NotLess : X → X → Type 0
  NotLess x y = less x y ≡ false

  -- of nothing nothing is held
  pub AreFirst-none : (k : ℕ) → AreFirst order k [] []
  AreFirst-none k = record { others = []; split = IsPermutation-refl []; few = omega arith; full = λ _. refl; apart = All-nil _ }

  -- what is held in another order
  pub AreFirst-moved : (k : ℕ) (all held moved : List X) → IsPermutation held moved → AreFirst order k all held → AreFirst order k all moved
  AreFirst-moved k all held moved p f =
      let long = length_permutation held moved p in
      record {
        others = f.others;
        split = IsPermutation-trans _ _ _ f.split (IsPermutation-append_left f.others held moved p);
        few = subst (λ n. n ≤ k) (sym long) f.few;
        full = λ h. f.full (subst (λ n. n < k) long h);
        apart = All-weaker (NotBelow held) (NotBelow moved) (λ x h. recursion_from_All (NotLess x) moved (All-permutation (NotLess x) held moved p (All-from_recursion (NotLess x) held h))) f.others f.apart;
      }

  -- one more, where there is room
  pub AreFirst-more : (k : ℕ) (all held : List X) (x : X) → length held < k → AreFirst order k all held → AreFirst order k (x ∷ all) (x ∷ held)
  AreFirst-more k all held x room f =
      record {
        others = [];
        split = IsPermutation-cons x _ _ (subst (λ r. IsPermutation all (held ++ r)) (f.full room) f.split);
        few = omega (arith, room);
        full = λ _. refl;
        apart = All-nil _;
      }

  -- one that is less than none that is held
  pub AreFirst-kept : (k : ℕ) (all held : List X) (x : X) → k ≤ length held → IsUpperBound order x held → AreFirst order k all held → AreFirst order k (x ∷ all) held
  AreFirst-kept k all held x long above f =
      record {
        others = x ∷ f.others;
        split = IsPermutation-trans _ _ _ (IsPermutation-cons x _ _ f.split) (IsPermutation-sym _ _ (IsPermutation-middle held x f.others));
        few = f.few;
        full = λ h. absurd (omega (arith, h, long));
        apart = All-cons (NotBelow held) x f.others above f.apart;
      }

  -- the same of all in another order
  pub AreFirst-same : (k : ℕ) (all other held : List X) → IsPermutation all other → AreFirst order k all held → AreFirst order k other held
  AreFirst-same k all other held p f =
      record { others = f.others; split = IsPermutation-trans _ _ _ (IsPermutation-sym _ _ p) f.split; few = f.few; full = f.full; apart = f.apart }

-- ---- by the law of the order

module _ {X : Type 0} (order : X → X → Ordering) (total : IsTotalOrder order) where
  weak : IsStrictWeakOrder (λ (x : X) (y : X). is_lt (order x y))
  weak = ranks_by total (λ x. x)

  -- one that takes the place of the greatest
  swapped : (k : ℕ) (all held : List X) (greatest x : X) → k ≤ length (greatest ∷ held) → IsUpperBound order greatest (greatest ∷ held) → less order x greatest ≡ true
      → AreFirst order k all (greatest ∷ held) → AreFirst order k (x ∷ all) (x ∷ held)
  swapped k all held t x long top lower f =
      record {
        others = t ∷ f.others;
        split = IsPermutation-cons x _ _ (IsPermutation-trans _ _ _ f.split (IsPermutation-sym _ _ (IsPermutation-middle held t f.others)));
        few = f.few;
        full = λ h. absurd (omega (arith, h, long));
        apart = All-cons (NotBelow order (x ∷ held)) t f.others (weak.one_way x t lower, top.1)
            (All-weaker (NotBelow order (t ∷ held)) (NotBelow order (x ∷ held)) (λ r h. (weak.chain r t x h.0 (weak.one_way x t lower), h.1)) f.others f.apart);
      }

  pub AreFirst-replaced : (k : ℕ) (all held left moved : List X) (greatest x : X) → k ≤ length held → IsPermutation held (greatest ∷ left) → IsUpperBound order greatest held
      → less order x greatest ≡ true → IsPermutation (x ∷ left) moved → AreFirst order k all held → AreFirst order k (x ∷ all) moved
  AreFirst-replaced k all held left moved t x long popped top lower pushed f =
      AreFirst-moved order k (x ∷ all) (x ∷ left) moved pushed
      (swapped k all left t x (subst (λ n. k ≤ n) (sym (length_permutation held (t ∷ left) popped)) long)
      (recursion_from_All (NotLess order t) (t ∷ left) (All-permutation (NotLess order t) held (t ∷ left) popped (All-from_recursion (NotLess order t) held top)))
      lower (AreFirst-moved order k all held (t ∷ left) popped f))

  -- what isn't less than one that is less than none
  pub above_all : (x t : X) (held : List X) → less order x t ≡ false → IsUpperBound order t held → IsUpperBound order x held
  above_all x t [] low top = tt
  above_all x t (y ∷ ys) low top = (weak.chain x t y low top.0, above_all x t ys low top.1)

  -- ---- the others in order stand behind what is held

  abbrev pub into : X → List X → List X
  into x [] = x ∷ []
  into x (y ∷ ys) = cond (less order y x) (y ∷ into x ys) (x ∷ y ∷ ys)

  abbrev pub in_order : List X → List X
  in_order [] = []
  in_order (x ∷ xs) = into x (in_order xs)

  into_same : (x : X) (ys : List X) → IsPermutation (x ∷ ys) (into x ys)
  into_same x [] = IsPermutation-refl _
  into_same x (y ∷ ys) = go (into_same x ys) (less order y x)
    where
      go : IsPermutation (x ∷ ys) (into x ys) → (b : Bool) → IsPermutation (x ∷ y ∷ ys) (cond b (y ∷ into x ys) (x ∷ y ∷ ys))
      go same true = IsPermutation-trans _ _ _ (IsPermutation-sym _ _ (IsPermutation-middle (y ∷ []) x ys)) (IsPermutation-cons y _ _ same)
      go same false = IsPermutation-refl _

  in_order_same : (xs : List X) → IsPermutation xs (in_order xs)
  in_order_same [] = IsPermutation-refl _
  in_order_same (x ∷ xs) = IsPermutation-trans _ _ _ (IsPermutation-cons x _ _ (in_order_same xs)) (into_same x (in_order xs))

  abbrev pub IsBelowHead : X → List X → Type 0
  IsBelowHead x ys = (d : X) → 0 < length ys → less order (get_or ys 0 d) x ≡ false

  sorted_cons : (x : X) (ys : List X) → IsBelowHead x ys → IsSortedBy (less order) ys → IsSortedBy (less order) (x ∷ ys)
  sorted_cons x ys head up zero d from within = head d (omega (arith, within))
  sorted_cons x ys head up (suc k) d from within =
      let e : suc k + 1 ≡ suc (k + 1) = omega arith in
      subst (λ n. less order (get_or (x ∷ ys) n d) (get_or ys k d) ≡ false) (sym e) (up k d (omega arith) (omega (arith, within)))

  sorted_tail : (x : X) (ys : List X) → IsSortedBy (less order) (x ∷ ys) → IsSortedBy (less order) ys
  sorted_tail x ys up k d from within =
      let e : suc k + 1 ≡ suc (k + 1) = omega arith in
      subst (λ n. less order (get_or (x ∷ ys) n d) (get_or ys k d) ≡ false) e (up (suc k) d (omega arith) (omega (arith, within)))

  into_sorted : (x : X) (ys : List X) → IsSortedBy (less order) ys → IsSortedBy (less order) (into x ys)
  into_sorted x [] up = sorted_cons x [] (λ d h. absurd (omega (arith, h))) up
  into_sorted x (y ∷ ys) up = go (into_sorted x ys (sorted_tail y ys up)) (less order y x) refl
    where
      head : (ys : List X) → IsBelowHead y ys → less order y x ≡ true → IsBelowHead y (into x ys)
      head [] low lower d h = weak.one_way y x lower
      head (z ∷ zs) low lower d h = pick (less order z x)
        where
          pick : (b : Bool) → less order (get_or (cond b (z ∷ into x zs) (x ∷ z ∷ zs)) 0 d) y ≡ false
          pick true = low d (omega arith)
          pick false = weak.one_way y x lower

      go : IsSortedBy (less order) (into x ys) → (b : Bool) → less order y x ≡ b → IsSortedBy (less order) (cond b (y ∷ into x ys) (x ∷ y ∷ ys))
      go on true e = sorted_cons y (into x ys) (head ys (λ d h. up 0 d (omega arith) (omega (arith, h))) e) on
      go on false e = sorted_cons x (y ∷ ys) (λ d h. e) up

  in_order_sorted : (xs : List X) → IsSortedBy (less order) (in_order xs)
  in_order_sorted [] = λ k d from within. absurd (omega (arith, within))
  in_order_sorted (x ∷ xs) = into_sorted x (in_order xs) (in_order_sorted xs)

  sorted_append : (xs ys : List X) → IsSortedBy (less order) xs → IsSortedBy (less order) ys → All (NotBelow order xs) ys → IsSortedBy (less order) (xs ++ ys)
  sorted_append [] ys up on apart = on
  sorted_append (x ∷ []) ys up on apart = sorted_cons x ys (λ d h. (apart 0 d h).0) on
  sorted_append (x ∷ z ∷ zs) ys up on apart =
      sorted_cons x (z ∷ zs ++ ys) (λ d h. up 0 d (omega arith) (omega arith))
      (sorted_append (z ∷ zs) ys (sorted_tail x (z ∷ zs) up) on (All-weaker (NotBelow order (x ∷ z ∷ zs)) (NotBelow order (z ∷ zs)) (λ r h. h.1) ys apart))

  -- what is held, in order, is the front of all
  pub IsFront-held : (k : ℕ) (all held : List X) → AreFirst order k all held → IsSorted order held → IsFront order k all held
  IsFront-held k all held f up =
      record {
        ranking = held ++ in_order f.others;
        same = IsPermutation-trans _ _ _ f.split (IsPermutation-append_right held f.others (in_order f.others) (in_order_same f.others));
        sorted = sorted_append held (in_order f.others) up (in_order_sorted f.others) (All-permutation (NotBelow order held) _ _ (in_order_same f.others) f.apart);
        first = ⊎_elim
            (λ room. sym (subst (λ r. take k (held ++ in_order r) ≡ held) (sym (f.full room)) (ap (take k) (append-nil held) ∙ take_all k held f.few)))
            (λ long. sym (subst (λ n. take n (held ++ in_order f.others) ≡ held) (omega (arith, f.few, long)) (take-append_seam held (in_order f.others))))
            (cases_lt (length held) k);
      }
