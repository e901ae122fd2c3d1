-- What is kept of items, one after the other.
use Rattle.std.proofs.Common.{◌≡◌, ◌⊎◌, inl, inr, ◌||◌, ◌<◌, ◌≤◌, ℕ, ◌+◌, ◌-◌, ◌*◌, ◌/◌, ◌%◌, ◌^◌, Bool, true, false, List, [], ◌∷◌, ◌++◌, length, refl, sym, ap, subst, ◌∙◌, arith, nat_lt, get_or, ⊎_elim, not, append_assoc, append-nil}
use Rattle.std.specs.BinaryHeap.{IsUpperBound}
use Rattle.std.specs.Cmp.{IsTotalOrder}
use Rattle.std.specs.List.{All, filter}
use Rattle.std.specs.List.Sorted.{IsPermutation}
use Rattle.std.specs.Ordering.{is_lt, nat_cmp}
use Rattle.std.specs.declared.cmp.Ordering.{Ordering}
use Rattle.std.proofs.lemmas.Bool.{both_ways, cases_lt, lt-ltb, le-leb, le-ltb, leb-true, ltb-false}
use Rattle.std.proofs.lemmas.List.{get_or_default}
use Rattle.std.proofs.lemmas.List.Elements.{All-append, All-cons, All-nil, All-tail, All-weaker, filter_passes, recursion_from_All}
use Rattle.std.proofs.lemmas.List.Sorted.{All-permutation, IsPermutation-append_left, IsPermutation-append_right, IsPermutation-cons, IsPermutation-filter_both, IsPermutation-middle, IsPermutation-refl, IsPermutation-sym, IsPermutation-to_front, IsPermutation-trans}
use Rattle.std.proofs.lemmas.List.Sums.{length-filter}
use Rattle.first_few.proofs.FirstLemmas.{above_all}
use Rattle.bounded_keys.specs.Bounds.{contenders, is_beaten}
use Rattle.bounded_keys.specs.Kept.{AreAmong, AreContenders, IsApart, IsBehind, IsKept, LeavesOut, beats, is_beaten_by, is_surely_before, lower, slack, upper}
use Rattle.bounded_keys.specs.Runs.{HoldsRuns, count_before}
use Rattle.bounded_keys.specs.declared.threshold.Threshold.{Threshold}
use Rattle.bounded_keys.proofs.Aparts.{apart_first, apart_kept, apart_more, apart_none, apart_rest}
use Rattle.bounded_keys.proofs.Beaten.{beaten_by_first, beaten_by_top, beaten_more, beaten_room}
use Rattle.bounded_keys.proofs.Orders.{is_lt-nat_cmp}
use Rattle.bounded_keys.proofs.Counts.{All-append_left, count_all, count_append, count_but_one, count_permutation, count_weaker}
use Rattle.bounded_keys.proofs.RunLemmas.{before_more, before_some}

-- ---- the threshold

cut_down : (t c : ℕ) → nat_lt t (c * 2 ^ 28) ≡ nat_lt (t / 2 ^ 28) c
cut_down t c = ⊎_elim
    (λ l. lt-ltb t (c * 2 ^ 28) l ∙ sym (lt-ltb (t / 2 ^ 28) c (omega (arith, l))))
    (λ g. le-ltb t (c * 2 ^ 28) g ∙ sym (le-ltb (t / 2 ^ 28) c (omega (arith, g))))
    (cases_lt t (c * 2 ^ 28))

or_left : (a b : Bool) → a ≡ true → (a || b) ≡ true
or_left true b e = refl
or_left false b e = absurd (both_ways false refl e)

or_right : (a b : Bool) → b ≡ true → (a || b) ≡ true
or_right true b e = refl
or_right false b e = e

pub not_twice : (b : Bool) → not (not b) ≡ b
not_twice true = refl
not_twice false = refl

module _ {X : Type 0} (order : X → X → Ordering) (total : IsTotalOrder order) (number : X → ℕ) (by_number : (a b : X) → order a b ≡ nat_cmp (number a) (number b)) where
  lt_number : (a b : X) → is_lt (order a b) ≡ nat_lt (number a) (number b)
  lt_number a b = ap is_lt (by_number a b) ∙ is_lt-nat_cmp (number a) (number b)

  abbrev up : ℕ → X → ℕ
  up scale x = upper scale (number x)

  abbrev lo : X → ℕ
  lo x = lower (number x)

  rises : (scale : ℕ) (a b : X) → is_lt (order a b) ≡ false → up scale b ≤ up scale a
  rises scale a b h = let low : number b ≤ number a = ltb-false (number a) (number b) (sym (lt_number a b) ∙ h) in omega (arith, low)

  not_less_from : (a b : X) → number b ≤ number a → is_lt (order a b) ≡ false
  not_less_from a b h = lt_number a b ∙ le-ltb (number a) (number b) h

  -- where there is room nothing is beaten
  pub room_beats_none : (k scale : ℕ) (held : List X) (c : ℕ) → length held < k → is_beaten_by number scale k held c ≡ false
  room_beats_none k scale held c room = beaten_room order total (up scale) (rises scale) k held (lower c) room

  -- what the greatest of so many says
  pub top_beats : (k scale : ℕ) (held : List X) (top : X) (n c : ℕ) → length held ≡ k → 0 < length held → top ≡ get_or held 0 top
      → IsUpperBound order top held → n ≡ number top → is_beaten_by number scale k held c ≡ nat_lt (n + slack scale) c
  top_beats k scale held top n c full some is above e =
      let shorter : upper scale (number top) / 2 ^ 28 ≡ n + slack scale = omega (arith, e) in
      beaten_by_top order total (up scale) (rises scale) k held top (lower c) full some is above
      ∙ cut_down (upper scale (number top)) c ∙ ap (λ m. nat_lt m c) shorter

  -- where none may be held all is beaten
  pub none_held : (k scale : ℕ) (held : List X) (c : ℕ) → k ≡ 0 → is_beaten_by number scale k held c ≡ true
  none_held k scale held c e = le-leb _ _ (omega (arith, e))

  -- ---- the greatest of a heap

  module _ (held : List X) (x top : X) (a b : ℕ) (of : a ≡ number x) (greatest : b ≡ number top) where
    by_numbers : is_lt (order x top) ≡ nat_lt a b
    by_numbers = lt_number x top ∙ ap (λ n. nat_lt n (number top)) (sym of) ∙ ap (λ n. nat_lt a n) (sym greatest)

    pub before_top : 0 < length held → top ≡ get_or held 0 top → nat_lt a b ≡ true → (d : X) → is_lt (order x (get_or held 0 d)) ≡ true
    before_top some is e d = ap (λ y. is_lt (order x y)) (get_or_default held 0 d top some ∙ sym is) ∙ by_numbers ∙ e

    pub not_before_top : nat_lt a b ≡ false → IsUpperBound order top held → IsUpperBound order x held
    not_before_top e above = above_all order total x top held (by_numbers ∙ e) above

  -- ---- what is kept

  -- the order in which they came doesn't count
  pub Keeps-same : (k scale : ℕ) {before : X → X → Bool} (all other held near : List X) → IsPermutation all other
      → IsKept order number before all (record { most = k; scale = scale; held = held; near = near })
      → IsKept order number before other (record { most = k; scale = scale; held = held; near = near })
  Keeps-same k scale {before} all other held near p h = record {
    gone = h.gone;
    apart = record { split = IsPermutation-trans _ _ _ (IsPermutation-sym _ _ p) h.apart.split; few = h.apart.few; full = h.apart.full; apart = h.apart.apart };
    behind = All-weaker (IsBehind number scale before k all) (IsBehind number scale before k other)
        (λ x e. omega (arith, e, count_permutation (λ y. is_surely_before number scale before y x) all other p)) h.gone h.behind;
  }

  module _ (k scale : ℕ) (before : X → X → Bool) where
    abbrev pub Keeps : List X → List X → List X → Type 0
    Keeps all held near = IsKept order number before all (record { most = k; scale = scale; held = held; near = near })

    abbrev Gone : List X → X → Type 0
    Gone all x = IsBehind number scale before k all x

    pub Keeps-none : Keeps [] [] []
    Keeps-none = record { gone = []; apart = apart_none order total k; behind = All-nil _ }

    -- what is held beats what all beat
    by_held : (all held others : List X) (n : ℕ) → IsApart order k all held others → is_beaten (up scale) k all n ≡ is_beaten (up scale) k held n
    by_held all held others n h = beaten_by_first order total (up scale) (rises scale) k all held n (apart_first order total k all held others h)

    pub Keeps-beaten : (all held near : List X) (c : ℕ) → Keeps all held near → is_beaten_by number scale k all c ≡ is_beaten_by number scale k held c
    Keeps-beaten all held near c h = by_held all held (near ++ h.gone) (lower c) h.apart

    -- what is beaten is behind so many
    pub Gone-beaten : (all : List X) (x : X) → is_beaten_by number scale k all (number x) ≡ true → Gone all x
    Gone-beaten all x e = omega (
      arith,
      leb-true _ _ e,
      count_weaker (λ y. nat_lt (up scale y) (lo x)) (λ y. is_surely_before number scale before y x) all (λ i d within l. or_left (nat_lt (up scale (get_or all i d)) (lo x)) (before (get_or all i d) x) l),
    )

    -- and so is what so many stand before
    pub Gone-before : (all : List X) (x : X) → k ≤ count_before before all x → Gone all x
    Gone-before all x many = omega (
      arith,
      many,
      count_weaker (λ y. before y x) (λ y. is_surely_before number scale before y x) all (λ i d within l. or_right (nat_lt (up scale (get_or all i d)) (lo x)) (before (get_or all i d) x) l),
    )

    -- more items don't make what is behind so many less so
    all_behind : (xs ys gone : List X) → All (Gone ys) gone → All (Gone (xs ++ ys)) gone
    all_behind xs ys gone h = All-weaker (Gone ys) (Gone (xs ++ ys)) (λ x e. omega (arith, e, count_append (λ y. is_surely_before number scale before y x) xs ys)) gone h

    -- one more, where there is room
    pub Keeps-more : (all held near moved : List X) (x : X) → length held < k → IsPermutation (x ∷ held) moved → Keeps all held near → Keeps (x ∷ all) moved near
    Keeps-more all held near moved x room pushed h = record {
      gone = h.gone;
      apart = apart_more order total k all held moved (near ++ h.gone) x room pushed h.apart;
      behind = all_behind (x ∷ []) all h.gone h.behind;
    }

    -- one of the others comes beside what is kept, and some that are behind so many may go
    shed : (all held near next gone : List X) (x : X) (t : Threshold) → ((c : ℕ) → is_beaten_by number scale k held c ≡ beats t c)
        → IsApart order k all held (x ∷ (near ++ gone)) → All (Gone all) gone → LeavesOut number before k t (near ++ x ∷ []) next → Keeps all held next
    shed all held near next gone x t is apart behind left = record {
      gone = left.out ++ gone;
      apart = apart_rest order total k all held (x ∷ (near ++ gone)) (next ++ (left.out ++ gone))
          (subst (λ ys. IsPermutation (x ∷ (near ++ gone)) ys) (append_assoc next left.out gone)
          (IsPermutation-trans _ _ _ (IsPermutation-append_left gone (x ∷ near) (near ++ x ∷ []) (IsPermutation-sym _ _ (IsPermutation-to_front near x)))
          (IsPermutation-append_left gone (near ++ x ∷ []) (next ++ left.out) left.split))) apart;
      behind = All-append (Gone all) left.out gone (All-weaker (λ y. (beats t (number y) ≡ true) ⊎ (k ≤ count_before before (near ++ x ∷ []) y)) (Gone all) out_behind left.out left.behind) behind;
    }
      where
        out_behind : (y : X) → (beats t (number y) ≡ true) ⊎ (k ≤ count_before before (near ++ x ∷ []) y) → Gone all y
        out_behind y h = ⊎_elim
            (λ e. Gone-beaten all y (by_held all held (x ∷ (near ++ gone)) (lower (number y)) apart ∙ is (number y) ∙ e))
            (λ many. Gone-before all y (omega (
              arith,
              many,
              count_permutation (λ z. before z y) (near ++ x ∷ []) (x ∷ near) (IsPermutation-to_front near x),
              count_permutation (λ z. before z y) all (held ++ (x ∷ near ++ gone)) apart.split,
              count_append (λ z. before z y) held (x ∷ near ++ gone),
              count_append (λ z. before z y) (x ∷ near) gone,
            )))
            h

    -- an item is taken in, and another is held no more
    pub Keeps-offered : (all held near moved next : List X) (x other : X) (t : Threshold) → ((c : ℕ) → is_beaten_by number scale k moved c ≡ beats t c)
        → ((others : List X) → IsApart order k all held others → IsApart order k (x ∷ all) moved (other ∷ others))
        → LeavesOut number before k t (near ++ other ∷ []) next → Keeps all held near → Keeps (x ∷ all) moved next
    Keeps-offered all held near moved next x other t is apart left h =
        shed (x ∷ all) moved near next h.gone other t is (apart (near ++ h.gone) h.apart) (all_behind (x ∷ []) all h.gone h.behind) left

    module _ (all held near : List X) (t : Threshold) (is : (c : ℕ) → is_beaten_by number scale k held c ≡ beats t c) (h : Keeps all held near) where
      abbrev stays : X → Bool
      stays x = not (beats t (number x))

      abbrev goes : X → Bool
      goes x = beats t (number x)

      now : (x : X) → is_beaten_by number scale k all (number x) ≡ goes x
      now x = Keeps-beaten all held near (number x) h ∙ is (number x)

      leave : (xs : List X) → All (Gone all) (filter goes xs)
      leave xs = All-weaker (λ x. goes x ≡ true) (Gone all) (λ x e. Gone-beaten all x (now x ∙ e)) (filter goes xs) (filter_passes goes xs)

      -- of those that aren't beaten the first of each run are the contenders
      pub Keeps-contenders : (run : ℕ) (full : List ℕ) (middle taken : List X) → middle ≡ filter stays (held ++ near) → HoldsRuns before k middle run full taken
          → AreContenders number scale before k all taken
      Keeps-contenders run full middle taken made runs = record {
        passed = runs.out ++ (filter goes (held ++ near) ++ h.gone);
        split = split;
        behind = All-append (Gone all) runs.out (filter goes (held ++ near) ++ h.gone)
            (All-weaker (λ x. k ≤ count_before before taken x) (Gone all)
            (λ x many. Gone-before all x (omega (arith, many, before_some before all taken (runs.out ++ (filter goes (held ++ near) ++ h.gone)) x split))) runs.out runs.behind)
            (All-append (Gone all) (filter goes (held ++ near)) h.gone (leave (held ++ near)) h.behind);
        in_question = All-append_left (λ x. is_beaten_by number scale k all (number x) ≡ false) taken runs.out
            (All-permutation (λ x. is_beaten_by number scale k all (number x) ≡ false) middle (taken ++ runs.out) runs.split
            (subst (All (λ x. is_beaten_by number scale k all (number x) ≡ false)) (sym made)
            (All-weaker (λ x. stays x ≡ true) (λ x. is_beaten_by number scale k all (number x) ≡ false) (λ x e. now x ∙ sym (not_twice (goes x)) ∙ ap not e) (filter stays (held ++ near)) (filter_passes stays (held ++ near)))));
      }
        where
          parts : IsPermutation all (middle ++ (filter goes (held ++ near) ++ h.gone))
          parts = subst (λ ys. IsPermutation all (ys ++ (filter goes (held ++ near) ++ h.gone))) (sym made)
              (subst (λ ys. IsPermutation all ys) (append_assoc (filter stays (held ++ near)) (filter goes (held ++ near)) h.gone)
              (IsPermutation-trans _ _ _ (subst (λ ys. IsPermutation all ys) (sym (append_assoc held near h.gone)) h.apart.split)
              (IsPermutation-append_left h.gone (held ++ near) _ (IsPermutation-filter_both stays goes (λ x. sym (not_twice (goes x))) (held ++ near)))))

          split : IsPermutation all (taken ++ (runs.out ++ (filter goes (held ++ near) ++ h.gone)))
          split = subst (λ ys. IsPermutation all ys) (append_assoc taken runs.out (filter goes (held ++ near) ++ h.gone))
              (IsPermutation-trans _ _ _ parts (IsPermutation-append_left (filter goes (held ++ near) ++ h.gone) middle (taken ++ runs.out) runs.split))

    -- items that are beaten needn't come in
    pub Keeps-passed : (all held near more : List X) → All (λ x. is_beaten_by number scale k all (number x) ≡ true) more → Keeps all held near → Keeps (more ++ all) held near
    Keeps-passed all held near [] beaten h = h
    Keeps-passed all held near (x ∷ xs) beaten h =
        let inner = Keeps-passed all held near xs (All-tail (λ y. is_beaten_by number scale k all (number y) ≡ true) x xs beaten) h in
        let e : is_beaten_by number scale k held (number x) ≡ true = sym (Keeps-beaten all held near (number x) h) ∙ beaten 0 x (omega arith) in
        let apart = apart_kept order total k (xs ++ all) held (near ++ inner.gone) x (full held x e) (above held x inner.apart.few e) inner.apart in
        record {
          gone = x ∷ inner.gone;
          apart = apart_rest order total k (x ∷ (xs ++ all)) held (x ∷ (near ++ inner.gone)) (near ++ x ∷ inner.gone) (IsPermutation-sym _ _ (IsPermutation-middle near x inner.gone)) apart;
          behind = All-cons (Gone (x ∷ (xs ++ all))) x inner.gone
              (Gone-beaten (x ∷ (xs ++ all)) x (by_held (x ∷ (xs ++ all)) held (x ∷ (near ++ inner.gone)) (lo x) apart ∙ e))
              (all_behind (x ∷ []) (xs ++ all) inner.gone inner.behind);
        }
      where
        full : (held : List X) (x : X) → is_beaten_by number scale k held (number x) ≡ true → k ≤ length held
        full held x e = ⊎_elim (λ room. absurd (both_ways _ (room_beats_none k scale held (number x) room) e)) (λ g. g) (cases_lt (length held) k)

        above : (held : List X) (x : X) → length held ≤ k → is_beaten_by number scale k held (number x) ≡ true → IsUpperBound order x held
        above held x few e = recursion_from_All (λ y. is_lt (order x y) ≡ false) held (λ i d within. not_less_from x (get_or held i d) (⊎_elim
            (λ l. let below : up scale (get_or held i d) < lo x = l in omega (arith, below))
            (λ g. absurd (omega (arith, leb-true _ _ e, few, count_but_one (λ y. nat_lt (up scale y) (lo x)) held i d within (le-ltb _ _ g))))
            (cases_lt (up scale (get_or held i d)) (lo x))))

    -- nor need those whose numbers are at least one that is beaten
    pub Keeps-skipped : (all held near more : List X) (n : ℕ) → is_beaten_by number scale k all n ≡ true → All (λ x. n ≤ number x) more → Keeps all held near → Keeps (more ++ all) held near
    Keeps-skipped all held near more n e above h =
        Keeps-passed all held near more (All-weaker (λ x. n ≤ number x) (λ x. is_beaten_by number scale k all (number x) ≡ true) (λ x up_to.
        subst (λ xs. is_beaten (up scale) k xs (lo x) ≡ true) (append-nil all) (beaten_more lo (up scale) lo k all [] (lower n) (lo x) (omega (arith, up_to)) e)) more above) h

    -- they are at most as many as aren't beaten
    pub contenders_few : (all taken : List X) → AreContenders number scale before k all taken → length taken ≤ length (contenders lo (up scale) k all)
    contenders_few all taken h =
        let q : X → Bool = λ x. not (is_beaten (up scale) k all (lo x)) in
        let some = count_all q taken (All-weaker (λ x. is_beaten_by number scale k all (number x) ≡ false) (λ x. q x ≡ true) (λ x e. ap not e) taken h.in_question) in
        omega (arith, some, count_append q taken h.passed, count_permutation q all (taken ++ h.passed) h.split, length-filter q all)

-- ---- some items are left out

module _ {X : Type 0} (number : X → ℕ) (before : X → X → Bool) (k : ℕ) (t : Threshold) where
  abbrev Out : List X → X → Type 0
  Out xs x = (beats t (number x) ≡ true) ⊎ (k ≤ count_before before xs x)

  pub LeavesOut-none : (xs : List X) → LeavesOut number before k t xs xs
  LeavesOut-none xs = record { out = []; split = subst (λ ys. IsPermutation xs ys) (sym (append-nil xs)) (IsPermutation-refl xs); behind = All-nil _ }

  pub LeavesOut-last : (xs : List X) (x : X) → (beats t (number x) ≡ true) ⊎ (k ≤ count_before before xs x) → LeavesOut number before k t (xs ++ x ∷ []) xs
  LeavesOut-last xs x h = record {
    out = x ∷ [];
    split = IsPermutation-refl (xs ++ x ∷ []);
    behind = All-cons (Out (xs ++ x ∷ [])) x [] (⊎_elim (λ e. inl e) (λ many. inr (omega (arith, many, before_more before xs (x ∷ []) x))) h) (All-nil _);
  }

  -- those above the threshold go, and of the others those that aren't among the first of their run
  pub LeavesOut-purged : (run : ℕ) (full : List ℕ) (xs middle ys : List X) → middle ≡ filter (λ x. not (beats t (number x))) xs → HoldsRuns before k middle run full ys → LeavesOut number before k t xs ys
  LeavesOut-purged run full xs middle ys made runs = record {
    out = runs.out ++ filter (λ x. beats t (number x)) xs;
    split = split;
    behind = All-append (Out xs) runs.out (filter (λ x. beats t (number x)) xs)
        (All-weaker (λ x. k ≤ count_before before ys x) (Out xs) (λ x many. inr (omega (arith, many, before_some before xs ys (runs.out ++ filter (λ y. beats t (number y)) xs) x split))) runs.out runs.behind)
        (All-weaker (λ x. beats t (number x) ≡ true) (Out xs) (λ x e. inl e) (filter (λ x. beats t (number x)) xs) (filter_passes (λ x. beats t (number x)) xs));
  }
    where
      split : IsPermutation xs (ys ++ (runs.out ++ filter (λ x. beats t (number x)) xs))
      split = subst (λ zs. IsPermutation xs zs) (append_assoc ys runs.out (filter (λ x. beats t (number x)) xs))
          (IsPermutation-trans _ _ _ (subst (λ zs. IsPermutation xs (zs ++ filter (λ x. beats t (number x)) xs)) (sym made)
          (IsPermutation-filter_both (λ x. not (beats t (number x))) (λ x. beats t (number x)) (λ x. sym (not_twice (beats t (number x)))) xs))
          (IsPermutation-append_left (filter (λ x. beats t (number x)) xs) middle (ys ++ runs.out) runs.split))

-- ---- what stands among others

module _ {X : Type 0} where
  pub among_more : (held near moved : List X) (x : X) → IsPermutation (x ∷ held) moved → AreAmong (moved ++ near) (x ∷ (held ++ near))
  among_more held near moved x pushed = record {
    others = [];
    split = subst (λ ys. IsPermutation (x ∷ (held ++ near)) ys) (sym (append-nil (moved ++ near))) (IsPermutation-append_left near (x ∷ held) moved pushed);
  }

  pub among_swapped : (number : X → ℕ) (before : X → X → Bool) (k : ℕ) (t : Threshold) (held near moved next : List X) (x other : X) → IsPermutation (x ∷ held) (other ∷ moved)
      → LeavesOut number before k t (near ++ other ∷ []) next
      → AreAmong (moved ++ next) (x ∷ (held ++ near))
  among_swapped number before k t held near moved next x other swapped left = record {
    others = left.out;
    split = subst (λ ys. IsPermutation (x ∷ (held ++ near)) ys) (sym (append_assoc moved next left.out))
        (IsPermutation-trans _ _ _ (IsPermutation-append_left near (x ∷ held) (other ∷ moved) swapped)
        (IsPermutation-trans _ _ _ (IsPermutation-sym _ _ (IsPermutation-middle moved other near))
        (IsPermutation-append_right moved (other ∷ near) (next ++ left.out)
        (IsPermutation-trans _ _ _ (IsPermutation-sym _ _ (IsPermutation-to_front near other)) left.split))));
  }

  pub among_step : (xs ys zs : List X) (x : X) → AreAmong xs (x ∷ ys) → AreAmong ys zs → AreAmong xs (x ∷ zs)
  among_step xs ys zs x h f = record {
    others = h.others ++ f.others;
    split = subst (λ ws. IsPermutation (x ∷ zs) ws) (append_assoc xs h.others f.others)
        (IsPermutation-trans _ _ _ (IsPermutation-cons x _ _ f.split) (IsPermutation-append_left f.others (x ∷ ys) (xs ++ h.others) h.split));
  }

  pub among_filter : (p q : X → Bool) → ((x : X) → q x ≡ not (p x)) → (xs : List X) → AreAmong (filter p xs) xs
  among_filter p q other xs = record { others = filter q xs; split = IsPermutation-filter_both p q other xs }

-- ---- the threshold as it is computed

pub slack_value : (s r : ℕ) → s < 2 ^ 64 → r ≡ (s * 268435456 % 340282366920938463463374607431768211456 - s) / 268435456 → r ≡ slack s
slack_value s r few e = e ∙ ap (λ m. (m - s) / 268435456) (mod_small (s * 268435456) (omega (arith, few)))
  where
    mod_small : (m : ℕ) → m < 340282366920938463463374607431768211456 → m % 340282366920938463463374607431768211456 ≡ m
    mod_small m h = omega (arith, h)
