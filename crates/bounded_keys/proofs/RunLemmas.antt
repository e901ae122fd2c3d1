-- What is kept of runs, one item after the other.
use Rattle.std.proofs.Common.{◌≡◌, Some, zero, suc, ◌<◌, ◌≤◌, ◌+◌, ◌-◌, ℕ, Bool, true, List, [], ◌∷◌, ◌++◌, length, get_or, sym, ap, subst, ◌∙◌, arith, append_assoc, ⊎_elim}
use Rattle.std.specs.List.{slice_get}
use Rattle.std.specs.List.Sorted.{IsPermutation}
use Rattle.std.proofs.lemmas.Bool.{cases_lt}
use Rattle.std.proofs.lemmas.List.{get_or_append_left, get_or_default, length-append}
use Rattle.std.proofs.Math.Seq.{get_or-append_seam}
use Rattle.std.proofs.lemmas.List.Elements.{All-append, All-cons, All-get_or, All-nil, All-weaker}
use Rattle.std.proofs.lemmas.Option.{slice_get_within}
use Rattle.std.proofs.lemmas.List.Sorted.{IsPermutation-append_left, IsPermutation-cons, IsPermutation-middle, IsPermutation-refl, IsPermutation-sym, IsPermutation-to_front, IsPermutation-trans}
use Rattle.bounded_keys.specs.Runs.{AreNeighbours, AreSeen, AreShort, Continues, HoldsRuns, IsFull, Reaches, count_before}
use Rattle.bounded_keys.specs.Kept.{AreAmong}
use Rattle.bounded_keys.proofs.Counts.{bit, count_append, count_cons, count_permutation}

some_get : {X : Type 0} (xs : List X) (n : ℕ) (x : X) → slice_get xs n ≡ Some x → get_or xs n x ≡ x
some_get [] n x h = absurd cc
some_get (y ∷ ys) zero x h = cc
some_get (y ∷ ys) (suc n) x h = some_get ys n x h

module _ {X : Type 0} (before : X → X → Bool) where
  -- more items, of which as many or more stand before an item
  pub before_more : (xs ys : List X) (x : X) → count_before before xs x ≤ count_before before (xs ++ ys) x
  before_more xs ys x = omega (arith, count_append (λ y. before y x) xs ys)

  pub before_some : (xs ys zs : List X) (x : X) → IsPermutation xs (ys ++ zs) → count_before before ys x ≤ count_before before xs x
  before_some xs ys zs x p = omega (arith, count_append (λ y. before y x) ys zs, count_permutation (λ y. before y x) xs (ys ++ zs) p)

  before_one : (xs : List X) (z x : X) → before z x ≡ true → count_before before xs x + 1 ≤ count_before before (xs ++ z ∷ []) x
  before_one xs z x e =
      let b : bit (before z x) ≡ 1 = ap bit e in
      omega (arith, b, count_append (λ y. before y x) xs (z ∷ []), count_cons (λ y. before y x) z [])

  reaches_more : (k i : ℕ) (xs ys : List X) → i < length xs → Reaches before k i xs → Reaches before k i (xs ++ ys)
  reaches_more k i xs ys within h x f =
      let same : get_or (xs ++ ys) i x ≡ get_or xs i x = get_or_append_left xs ys x i within in
      omega (arith, h x (subst (λ y. before y x ≡ true) same f), before_more xs ys x)

  -- a place stays full when more comes
  pub full_more : (k : ℕ) (full : List ℕ) (xs ys : List X) → IsFull before k full xs → IsFull before k full (xs ++ ys)
  full_more k full xs ys h = All-weaker (λ i. (i < length xs) × Reaches before k i xs) (λ i. (i < length (xs ++ ys)) × Reaches before k i (xs ++ ys)) (λ i g. more i g) full h
    where
      more : (i : ℕ) → (i < length xs) × Reaches before k i xs → (i < length (xs ++ ys)) × Reaches before k i (xs ++ ys)
      more i g =
          let longer : length (xs ++ ys) ≡ length xs + length ys = length-append xs ys in
          (omega (arith, g.0, longer), reaches_more k i xs ys g.0 g.1)

  -- what an item at a full place stands before has so many before it
  pub full_at : (k n place : ℕ) (full : List ℕ) (xs : List X) (x : X) → IsFull before k full xs → Some place ≡ slice_get full n → before (get_or xs place x) x ≡ true → k ≤ count_before before xs x
  full_at k n place full xs x whole at e =
      let inside : n < length full = slice_get_within full n place (sym at) in
      let there : (get_or full n place < length xs) × Reaches before k (get_or full n place) xs = All-get_or (λ i. (i < length xs) × Reaches before k i xs) full n place inside whole in
      let same : get_or full n place ≡ place = some_get full n place (sym at) in
      subst (λ i. Reaches before k i xs) same there.1 x e

  pub full_none : (k : ℕ) (full : List ℕ) (xs : List X) → full ≡ [] → IsFull before k full xs
  full_none k full xs e = subst (λ l. IsFull before k l xs) (sym e) (All-nil _)

  -- ---- one item after the other

  pub runs_none : (k : ℕ) (full : List ℕ) → full ≡ [] → HoldsRuns before k [] 0 full []
  runs_none k full e = record {
    out = [];
    split = IsPermutation-refl [];
    behind = All-nil _;
    last = λ m few _ x f. omega (arith, few);
    short = λ i n within _. omega (arith, within);
    seen = λ i n ends _. omega (arith, ends);
    whole = full_none k full [] e;
  }

  -- ---- neighbours

  -- with one more item behind
  fewer : (xs : List X) (z : X) (i m n : ℕ) → m ≤ n → i + m ≤ length xs → AreNeighbours before i n (xs ++ z ∷ []) → AreNeighbours before i m xs
  fewer xs z i m n less within near j above below x =
      let here : get_or (xs ++ z ∷ []) j x ≡ get_or xs j x = get_or_append_left xs (z ∷ []) x j (omega (arith, within, below)) in
      let next : get_or (xs ++ z ∷ []) (j + 1) x ≡ get_or xs (j + 1) x = get_or_append_left xs (z ∷ []) x (j + 1) (omega (arith, within, below)) in
      let both = near j above (omega (arith, below, less)) x in
      subst (λ b. before (get_or xs j x) b ≡ true) next (subst (λ a. before a (get_or (xs ++ z ∷ []) (j + 1) x) ≡ true) here both)

  -- the last two
  last_two : (xs : List X) (z : X) (i n : ℕ) → 2 ≤ n → i + n ≡ length xs + 1 → AreNeighbours before i n (xs ++ z ∷ []) → Continues before xs z
  last_two xs z i n two ends near =
      let some : 0 < length xs = omega (arith, two, ends) in
      let j = length xs - 1 in
      let back : j + 1 ≡ length xs = omega (arith, some) in
      let here : get_or (xs ++ z ∷ []) j z ≡ get_or xs j z = get_or_append_left xs (z ∷ []) z j (omega (arith, some)) in
      let at : get_or (xs ++ z ∷ []) (j + 1) z ≡ z = ap (λ i. get_or (xs ++ z ∷ []) i z) back ∙ get_or-append_seam xs z [] z in
      let both = near j (omega (arith, two, ends, some)) (omega (arith, ends, some)) z in
      (some, subst (λ b. before (get_or xs j z) b ≡ true) at (subst (λ a. before a (get_or (xs ++ z ∷ []) (j + 1) z) ≡ true) here both))

  seen_with : (run seen : ℕ) (xs : List X) (z : X) → AreSeen before xs run z seen → ((i n : ℕ) → i + n ≡ length xs → AreNeighbours before i n xs → n ≤ run)
      → (i n : ℕ) → i + n ≡ length xs + 1 → AreNeighbours before i n (xs ++ z ∷ []) → n ≤ seen + 1
  seen_with run seen xs z more h i zero ends near = omega arith
  seen_with run seen xs z more h i (suc zero) ends near = omega arith
  seen_with run seen xs z more h i (suc (suc m)) ends near =
      let on = last_two xs z i (suc (suc m)) (omega arith) ends near in
      ⊎_elim
      (λ goes.
      let few = h i (suc m) (omega (arith, ends)) (fewer xs z i (suc m) (suc (suc m)) (omega arith) (omega (arith, ends)) near) in
      omega (arith, few, goes.1))
      (λ begins. absurd (begins.0 on))
      more

  short_with : (k seen : ℕ) (xs : List X) (z : X) → seen < k → AreShort before k xs
      → ((i n : ℕ) → i + n ≡ length xs + 1 → AreNeighbours before i n (xs ++ z ∷ []) → n ≤ seen + 1) → AreShort before k (xs ++ z ∷ [])
  short_with k seen xs z room h ends i n within near =
      let longer : length (xs ++ z ∷ []) ≡ length xs + 1 = length-append xs (z ∷ []) in
      ⊎_elim
      (λ outside. let few = ends i n (omega (arith, within, outside, longer)) near in omega (arith, few, room))
      (λ inside. h i n inside (fewer xs z i n n (omega arith) inside near))
      (cases_lt (length xs) (i + n))

  module _ (follow : (a b c : X) → before a b ≡ true → before b c ≡ true → before a c ≡ true) where
    -- what the last item stands before, the items of its run stand before
    pub runs_kept : (k run seen next : ℕ) (full : List ℕ) (taken kept : List X) (z : X) → AreSeen before kept run z seen → seen < k → next ≡ seen + 1 → HoldsRuns before k taken run full kept
        → HoldsRuns before k (z ∷ taken) next full (kept ++ z ∷ [])
    runs_kept k run seen next full taken kept z more room one_more h = record {
      out = h.out;
      split = IsPermutation-trans _ _ _ (IsPermutation-cons z _ _ h.split) (IsPermutation-append_left h.out (z ∷ kept) (kept ++ z ∷ []) (IsPermutation-sym _ _ (IsPermutation-to_front kept z)));
      behind = All-weaker (λ x. k ≤ count_before before kept x) (λ x. k ≤ count_before before (kept ++ z ∷ []) x) (λ x e. omega (arith, e, before_more kept (z ∷ []) x)) h.out h.behind;
      last = λ m few small x f.
          let at : get_or (kept ++ z ∷ []) (length (kept ++ z ∷ []) - 1) x ≡ z = ap (λ i. get_or (kept ++ z ∷ []) i x) place ∙ get_or-append_seam kept z [] x in
          let now : before z x ≡ true = subst (λ y. before y x ≡ true) at f in
          let one = before_one kept z x now in
          ⊎_elim
          (λ goes. reach m few small x now one goes)
          (λ begins. omega (arith, few, one_more, begins.1, one))
          more;
      short = short_with k seen kept z room h.short ends;
      seen = λ i n all near. let few = ends i n (omega (arith, all, longer)) near in omega (arith, few, one_more);
      whole = full_more k full kept (z ∷ []) h.whole;
    }
      where
        longer : length (kept ++ z ∷ []) ≡ length kept + 1
        longer = length-append kept (z ∷ [])

        place : length (kept ++ z ∷ []) - 1 ≡ length kept
        place = omega (arith, longer)

        ends : (i n : ℕ) → i + n ≡ length kept + 1 → AreNeighbours before i n (kept ++ z ∷ []) → n ≤ seen + 1
        ends = seen_with run seen kept z more h.seen

        reach : (m : ℕ) → m ≤ next → m ≤ k → (x : X) → before z x ≡ true → count_before before kept x + 1 ≤ count_before before (kept ++ z ∷ []) x
            → Continues before kept z × (seen ≡ run) → m ≤ count_before before (kept ++ z ∷ []) x
        reach m few small x now one goes =
            let on = follow (get_or kept (length kept - 1) z) z x goes.0.1 now in
            let at : get_or kept (length kept - 1) z ≡ get_or kept (length kept - 1) x = get_or_default kept (length kept - 1) z x (omega (arith, goes.0.0)) in
            let many = h.last (m - 1) (omega (arith, few, goes.1, one_more)) (omega (arith, small)) x (subst (λ y. before y x ≡ true) at on) in
            omega (arith, many, one)

    -- one of whose run so many are kept
    pub runs_reach : (k run seen : ℕ) (full : List ℕ) (taken kept : List X) (z : X) → AreSeen before kept run z seen → k ≤ seen → HoldsRuns before k taken run full kept
        → Reaches before k (length kept - 1) kept
    runs_reach k run seen full taken kept z more long h x f = ⊎_elim
        (λ goes. h.last k (omega (arith, goes.1, long)) (omega arith) x f)
        (λ begins. omega (arith, begins.1, long))
        more

    pub runs_left : (k run seen next : ℕ) (full now : List ℕ) (taken kept : List X) (z : X) → AreSeen before kept run z seen → k ≤ seen → seen ≤ next → IsFull before k now kept
        → HoldsRuns before k taken run full kept → HoldsRuns before k (z ∷ taken) next now kept
    runs_left k run seen next full now taken kept z more long up whole h = record {
      out = z ∷ h.out;
      split = IsPermutation-trans _ _ _ (IsPermutation-cons z _ _ h.split) (IsPermutation-sym _ _ (IsPermutation-middle kept z h.out));
      behind = All-cons (λ x. k ≤ count_before before kept x) z h.out
          (⊎_elim (λ goes. h.last k (omega (arith, goes.1, long)) (omega arith) z goes.0.1) (λ begins. omega (arith, begins.1, long)) more) h.behind;
      last = λ m few small x f.
          let many = runs_reach k run seen full taken kept z more long h x f in
          omega (arith, many, small);
      short = h.short;
      seen = λ i n all near. let few = h.short i n (omega (arith, all)) near in omega (arith, few, long, up);
      whole = whole;
    }

  -- the last place
  pub full_last : (k last : ℕ) (full : List ℕ) (kept : List X) → (1 ≤ length kept) × (last ≡ length kept - 1) → Reaches before k (length kept - 1) kept → IsFull before k full kept
      → IsFull before k (full ++ last ∷ []) kept
  full_last k last full kept at h whole = All-append (λ i. (i < length kept) × Reaches before k i kept) full (last ∷ []) whole (All-cons (λ i. (i < length kept) × Reaches before k i kept) last [] here (All-nil _))
    where
      here : (last < length kept) × Reaches before k last kept
      here = (omega (arith, at.0, at.1), subst (λ j. Reaches before k j kept) (sym at.1) h)

  -- ---- what is kept at the end

  pub runs_among : (k run : ℕ) (full : List ℕ) (taken kept all : List X) → HoldsRuns before k taken run full kept → AreAmong taken all → AreAmong kept all
  runs_among k run full taken kept all h among = record {
    others = h.out ++ among.others;
    split = subst (λ ys. IsPermutation all ys) (append_assoc kept h.out among.others)
        (IsPermutation-trans _ _ _ among.split (IsPermutation-append_left among.others taken (kept ++ h.out) h.split));
  }

  -- items in another order
  pub runs_same : (k run : ℕ) (full : List ℕ) (taken other kept : List X) → IsPermutation other taken → HoldsRuns before k taken run full kept → HoldsRuns before k other run full kept
  runs_same k run full taken other kept p h = record { out = h.out; split = IsPermutation-trans _ _ _ p h.split; behind = h.behind; last = h.last; short = h.short; seen = h.seen; whole = h.whole }
