-- what is known of the extents of a walk
use Rattle.std.proofs.Common.{◌≡◌, ℕ, ◌+◌, ◌-◌, ◌<◌, ◌≤◌, ⊎_elim, Bool, true, false, nat_le, Some, None, Option, List, [], ◌∷◌, length, drop, get_or, refl, sym, ap, ◌∙◌, arith}
use Rattle.std.proofs.lemmas.Bool.{true≢false}
use Rattle.std.proofs.lemmas.Bool.Decides.{nat_tests}
use Rattle.std.specs.Prelude.{⊤}
use Rattle.ri_base.specs.Pair.{Pair}
use Rattle.extent_lists.specs.Operators.{HasEachInside, IsInSome, IsLeastEnd, IsWindow, Joins}
use Rattle.extent_lists.specs.Plans.{Plan, Plans, listed, union_of, within, shortest, joined, window, whole, none, more, set, each_set}
use Rattle.extent_lists.specs.Rows.{Has}
use Rattle.extent_walks.specs.Chains.{AreChained}
use Rattle.extent_walks.specs.Walks.{chain_plan}
use Rattle.extent_walks.specs.Shapes.{AreMonotone, AreOneToken, HasShape, HaveOneEnd, first_of, has_one_end, is_monotone, list_shape, of_union, of_windows, plan_shape, plans_shape, shape_before, weaker}
use Rattle.extent_walks.specs.declared.shape.Shape.{Shape}
use Rattle.extent_walks.specs.declared.shape.Shape.TheVariants.{OneToken, Monotone, OneEnd, Any}
use Rattle.extent_lists.proofs.RowLemmas.{drop_before}

-- ---- what is known of two

abbrev pub is_one_token : Shape → Bool
is_one_token OneToken = true
is_one_token Monotone = false
is_one_token OneEnd = false
is_one_token Any = false

-- a test that passes where one passes that says less
module _ (test : Shape → Bool) (any : test Any ≡ true → test OneEnd ≡ true) (one_end : test OneEnd ≡ true → test Monotone ≡ true) (monotone : test Monotone ≡ true → test OneToken ≡ true) where
  passes_first : (s : Shape) → test s ≡ true → test OneToken ≡ true
  passes_first OneToken h = h
  passes_first Monotone h = monotone h
  passes_first OneEnd h = monotone (one_end h)
  passes_first Any h = monotone (one_end (any h))

  passes_all : (s : Shape) → test Any ≡ true → test s ≡ true
  passes_all OneToken h = monotone (one_end (any h))
  passes_all Monotone h = one_end (any h)
  passes_all OneEnd h = any h
  passes_all Any h = h

  passes_both : (s t : Shape) → test (weaker s t) ≡ true → (test s ≡ true) × (test t ≡ true)
  passes_both OneToken t h = (passes_first t h, h)
  passes_both Monotone OneToken h = (h, monotone h)
  passes_both Monotone Monotone h = (h, h)
  passes_both Monotone OneEnd h = (one_end h, h)
  passes_both Monotone Any h = (one_end (any h), h)
  passes_both OneEnd OneToken h = (h, monotone (one_end h))
  passes_both OneEnd Monotone h = (h, one_end h)
  passes_both OneEnd OneEnd h = (h, h)
  passes_both OneEnd Any h = (any h, h)
  passes_both Any t h = (h, passes_all t h)

both_one_token : (s t : Shape) → is_one_token (weaker s t) ≡ true → (is_one_token s ≡ true) × (is_one_token t ≡ true)
both_one_token s t h = passes_both is_one_token (λ e. e) (λ e. absurd (true≢false (sym e))) (λ e. refl) s t h

both_monotone : (s t : Shape) → is_monotone (weaker s t) ≡ true → (is_monotone s ≡ true) × (is_monotone t ≡ true)
both_monotone s t h = passes_both is_monotone (λ e. e) (λ e. refl) (λ e. refl) s t h

both_one_end : (s t : Shape) → has_one_end (weaker s t) ≡ true → (has_one_end s ≡ true) × (has_one_end t ≡ true)
both_one_end s t h = passes_both has_one_end (λ e. refl) (λ e. refl) (λ e. refl) s t h

one_token_is_monotone : (s : Shape) → is_one_token s ≡ true → is_monotone s ≡ true
one_token_is_monotone OneToken h = refl
one_token_is_monotone Monotone h = refl
one_token_is_monotone OneEnd h = h
one_token_is_monotone Any h = h

windows_monotone : (s : Shape) → is_monotone (of_windows s) ≡ true → is_monotone s ≡ true
windows_monotone OneToken h = refl
windows_monotone Monotone h = refl
windows_monotone OneEnd h = h
windows_monotone Any h = h

windows_one_token : (s : Shape) → is_one_token (of_windows s) ≡ true → ⊥
windows_one_token OneToken h = cc
windows_one_token Monotone h = cc
windows_one_token OneEnd h = cc
windows_one_token Any h = cc

union_one_token : (s : Shape) → has_one_end (of_union s) ≡ true → is_one_token s ≡ true
union_one_token OneToken h = refl
union_one_token Monotone h = h
union_one_token OneEnd h = h
union_one_token Any h = h

monotone_one_end : (s : Shape) → is_monotone s ≡ true → has_one_end s ≡ true
monotone_one_end OneToken h = refl
monotone_one_end Monotone h = refl
monotone_one_end OneEnd h = refl
monotone_one_end Any h = h

AreMonotone-one_token : (R : ℕ → ℕ → Type 0) → AreOneToken R → AreMonotone R
AreMonotone-one_token R h b e c d p q lower = omega (arith, h b e p, h c d q, lower)

HaveOneEnd-monotone : (R : ℕ → ℕ → Type 0) → AreMonotone R → HaveOneEnd R
HaveOneEnd-monotone R h b d e p q = omega (arith, h b d b e p q (omega arith), h b e b d q p (omega arith))

-- ---- lists

module _ (x : Pair) where
  token_of : (next : Option Pair) → is_one_token (shape_before x next) ≡ true → x.end ≡ x.begin + 1
  token_of None h = grind (arith, nat_tests)
  token_of (Some y) h = grind (arith, nat_tests)

  next_begins : (y : Pair) → has_one_end (shape_before x (Some y)) ≡ true → x.begin < y.begin
  next_begins y h = grind (arith, nat_tests)

  next_ends : (y : Pair) → is_monotone (shape_before x (Some y)) ≡ true → x.end ≤ y.end
  next_ends y h = grind (arith, nat_tests)

-- all that follow an extent
begins_behind : (x : Pair) (xs : List Pair) → has_one_end (list_shape (x ∷ xs)) ≡ true → (b e : ℕ) → Has xs b e → x.begin < b
begins_behind x [] h b e k = absurd k
begins_behind x (y ∷ ys) h b e k =
    let s = both_one_end (shape_before x (Some y)) (list_shape (y ∷ ys)) h in
    let here = next_begins x y s.0 in
    ⊎_elim (λ j. omega (arith, here, j.0)) (λ j. let there = begins_behind y ys s.1 b e j in omega (arith, here, there)) k

ends_behind : (x : Pair) (xs : List Pair) → is_monotone (list_shape (x ∷ xs)) ≡ true → (b e : ℕ) → Has xs b e → x.end ≤ e
ends_behind x [] h b e k = absurd k
ends_behind x (y ∷ ys) h b e k =
    let s = both_monotone (shape_before x (Some y)) (list_shape (y ∷ ys)) h in
    let here = next_ends x y s.0 in
    ⊎_elim (λ j. omega (arith, here, j.1)) (λ j. let there = ends_behind y ys s.1 b e j in omega (arith, here, there)) k

one_token_list : (xs : List Pair) → is_one_token (list_shape xs) ≡ true → AreOneToken (Has xs)
one_token_list [] h b e k = absurd k
one_token_list (x ∷ xs) h b e k =
    let s = both_one_token (shape_before x (first_of xs)) (list_shape xs) h in
    ⊎_elim (λ j. omega (arith, token_of x (first_of xs) s.0, j.0, j.1)) (λ j. one_token_list xs s.1 b e j) k

monotone_list : (xs : List Pair) → is_monotone (list_shape xs) ≡ true → AreMonotone (Has xs)
monotone_list [] h b e c d p q lower = absurd p
monotone_list (x ∷ xs) h b e c d p q lower =
    let s = both_monotone (shape_before x (first_of xs)) (list_shape xs) h in
    let one_end = monotone_one_end (list_shape (x ∷ xs)) h in
    ⊎_elim
    (λ j. ⊎_elim
    (λ k. omega (arith, j.1, k.1))
    (λ k. let behind = ends_behind x xs h c d k in omega (arith, j.1, behind))
    q)
    (λ j. ⊎_elim
    (λ k. let behind = begins_behind x xs one_end b e j in absurd (omega (arith, k.0, behind, lower)))
    (λ k. monotone_list xs s.1 b e c d j k lower)
    q)
    p

one_end_list : (xs : List Pair) → has_one_end (list_shape xs) ≡ true → HaveOneEnd (Has xs)
one_end_list [] h b d e p q = absurd p
one_end_list (x ∷ xs) h b d e p q =
    let s = both_one_end (shape_before x (first_of xs)) (list_shape xs) h in
    ⊎_elim
    (λ j. ⊎_elim
    (λ k. omega (arith, j.1, k.1))
    (λ k. let behind = begins_behind x xs h b e k in absurd (omega (arith, j.0, behind)))
    q)
    (λ j. ⊎_elim
    (λ k. let behind = begins_behind x xs h b d j in absurd (omega (arith, k.0, behind)))
    (λ k. one_end_list xs s.1 b d e j k)
    q)
    p

-- one extent more before those of a list
pub list_shape-before : (xs : List Pair) (i : ℕ) (x : Pair) → 0 < i → i ≤ length xs → x ≡ get_or xs (i - 1) x → list_shape (drop (i - 1) xs) ≡ weaker (shape_before x (first_of (drop i xs))) (list_shape (drop i xs))
list_shape-before xs i x some inside is = ap list_shape (drop_before xs i x some inside is)

pub first_of-before : (xs : List Pair) (i : ℕ) (x : Pair) → 0 < i → i ≤ length xs → x ≡ get_or xs (i - 1) x → first_of (drop (i - 1) xs) ≡ Some x
first_of-before xs i x some inside is = ap first_of (drop_before xs i x some inside is)

-- ---- windows

monotone_joined : (n : ℕ) (R S : ℕ → ℕ → Type 0) → AreMonotone R → AreMonotone S → AreMonotone (IsLeastEnd (Joins n R S))
monotone_joined n R S r s b e c d p q lower = by (nat_le p.ends.1 q.ends.1) refl
  where
    by : (v : Bool) → nat_le p.ends.1 q.ends.1 ≡ v → e ≤ d
    by true j = s p.ends.1 e q.ends.1 d p.ends.4 q.ends.4 (grind (arith, nat_tests))
    by false j =
        let ends = r b p.ends.0 c q.ends.0 p.ends.2 q.ends.2 lower in
        let before : q.ends.1 < p.ends.1 = grind (arith, nat_tests) in
        p.least d (p.ends.0, q.ends.1, p.ends.2, (omega (arith, ends, q.ends.3.0), omega (arith, before, p.ends.3.1)), q.ends.4)

abbrev pub EachMonotone : List (ℕ → ℕ → Type 0) → Type 0
EachMonotone [] = ⊤
EachMonotone (R ∷ rs) = AreMonotone R × EachMonotone rs

-- an extent ends no later than one of its set that is inside
inside_ends : (rs : List (ℕ → ℕ → Type 0)) → EachMonotone rs → (b to c d : ℕ) → IsInSome rs b to → HasEachInside rs c d → b ≤ c → to ≤ d
inside_ends [] m b to c d p q lower = absurd p
inside_ends (R ∷ rs) m b to c d p q lower = ⊎_elim
    (λ k. let ends = m.0 b to q.0.0 q.0.1 k q.0.2 (omega (arith, lower, q.0.3.0)) in omega (arith, ends, q.0.3.1))
    (λ k. inside_ends rs m.1 b to c d k q.1 lower)
    p

HasEachInside-lower : (rs : List (ℕ → ℕ → Type 0)) (b c d : ℕ) → b ≤ c → HasEachInside rs c d → HasEachInside rs b d
HasEachInside-lower [] b c d lower h = tt
HasEachInside-lower (R ∷ rs) b c d lower h = ((h.0.0, h.0.1, h.0.2, (omega (arith, lower, h.0.3.0), h.0.3.1)), HasEachInside-lower rs b c d lower h.1)

monotone_window : (n : ℕ) (rs : List (ℕ → ℕ → Type 0)) → EachMonotone rs → AreMonotone (IsLeastEnd (IsWindow n rs))
monotone_window n rs m b e c d p q lower = by (nat_le d (b + n)) refl
  where
    by : (v : Bool) → nat_le d (b + n) ≡ v → e ≤ d
    by true j = p.least d (record {
      narrow = grind (arith, nat_tests);
      each = HasEachInside-lower rs b c d lower q.ends.each;
      begins = (p.ends.begins.0, inside_ends rs m b p.ends.begins.0 c d p.ends.begins.2 q.ends.each lower, p.ends.begins.2);
    })
    by false j = let narrow = p.ends.narrow in grind (arith, nat_tests)

-- ---- plans

mutual
  unfolding set each_set plan_shape plans_shape

  one_token_plan : (p : Plan) → is_one_token (plan_shape p) ≡ true → AreOneToken (set p)
  one_token_plan (listed xs) h b e k = one_token_list xs h b e k.0
  one_token_plan (union_of g) h b e k =
      let one_end = monotone_one_end (of_union (plans_shape g)) (one_token_is_monotone (of_union (plans_shape g)) h) in
      one_token_plans g (union_one_token (plans_shape g) one_end) b e k
  one_token_plan (within p fields) h b e k = one_token_plan p h b e k.0
  one_token_plan (shortest p) h b e k = absurd (windows_one_token (plan_shape p) h)
  one_token_plan (joined n p q) h b e k = absurd (windows_one_token (weaker (plan_shape p) (plan_shape q)) h)
  one_token_plan (window n g) h b e k = absurd (windows_one_token (plans_shape g) h)
  one_token_plan (whole n g) h b e k = absurd (windows_one_token Monotone h)

  one_token_plans : (g : Plans) → is_one_token (plans_shape g) ≡ true → AreOneToken (IsInSome (each_set g))
  one_token_plans none h b e k = absurd k
  one_token_plans (more p g) h b e k =
      let s = both_one_token (plan_shape p) (plans_shape g) h in
      ⊎_elim (λ j. one_token_plan p s.0 b e j) (λ j. one_token_plans g s.1 b e j) k

mutual
  unfolding set each_set plan_shape plans_shape

  pub monotone_plan : (p : Plan) → is_monotone (plan_shape p) ≡ true → AreMonotone (set p)
  monotone_plan (listed xs) h b e c d j k lower = monotone_list xs h b e c d j.0 k.0 lower
  monotone_plan (union_of g) h b e c d j k lower =
      let one_token = one_token_plans g (union_one_token (plans_shape g) (monotone_one_end (of_union (plans_shape g)) h)) in
      AreMonotone-one_token (IsInSome (each_set g)) one_token b e c d j k lower
  monotone_plan (within p fields) h b e c d j k lower = monotone_plan p h b e c d j.0 k.0 lower
  monotone_plan (shortest p) h b e c d j k lower = monotone_plan p (windows_monotone (plan_shape p) h) b e c d j.ends k.ends lower
  monotone_plan (joined n p q) h b e c d j k lower =
      let s = both_monotone (plan_shape p) (plan_shape q) (windows_monotone (weaker (plan_shape p) (plan_shape q)) h) in
      monotone_joined n (set p) (set q) (monotone_plan p s.0) (monotone_plan q s.1) b e c d j k lower
  monotone_plan (window n g) h b e c d j k lower =
      monotone_window n (each_set g) (monotone_plans g (windows_monotone (plans_shape g) h)) b e c d j k lower
  monotone_plan (whole n g) h b e c d j k lower = omega (arith, j.1, k.1)

  monotone_plans : (g : Plans) → is_monotone (plans_shape g) ≡ true → EachMonotone (each_set g)
  monotone_plans none h = tt
  monotone_plans (more p g) h =
      let s = both_monotone (plan_shape p) (plans_shape g) h in
      (monotone_plan p s.0, monotone_plans g s.1)

least_one_end : (R : ℕ → ℕ → Type 0) → HaveOneEnd (IsLeastEnd R)
least_one_end R b d e p q = omega (arith, p.least e q.ends, q.least d p.ends)

pub one_end_plan : (p : Plan) → has_one_end (plan_shape p) ≡ true → HaveOneEnd (set p)
unfolding set each_set plan_shape plans_shape
one_end_plan (listed xs) h b d e j k = one_end_list xs h b d e j.0 k.0
one_end_plan (union_of g) h b d e j k =
    let one_token = one_token_plans g (union_one_token (plans_shape g) h) in
    omega (arith, one_token b d j, one_token b e k)
one_end_plan (within p fields) h b d e j k = one_end_plan p h b d e j.0 k.0
one_end_plan (shortest p) h b d e j k = least_one_end (set p) b d e j k
one_end_plan (joined n p q) h b d e j k = least_one_end (Joins n (set p) (set q)) b d e j k
one_end_plan (window n g) h b d e j k = least_one_end (IsWindow n (each_set g)) b d e j k
one_end_plan (whole n g) h b d e j k = omega (arith, j.1, k.1)

pub shape-chain : (n : ℕ) (g : Plans) → AreChained g → plan_shape (chain_plan n g) ≡ Monotone
unfolding plan_shape plans_shape
shape-chain n none h = absurd h
shape-chain n (more p g) h = each p g h
  where
    of : (s : Shape) → is_monotone s ≡ true → of_windows s ≡ Monotone
    of OneToken h = refl
    of Monotone h = refl
    of OneEnd h = cc
    of Any h = cc

    joined_to : (s : Shape) → is_monotone s ≡ true → of_windows (weaker s Monotone) ≡ Monotone
    joined_to OneToken h = refl
    joined_to Monotone h = refl
    joined_to OneEnd h = cc
    joined_to Any h = cc

    each : (p : Plan) (g : Plans) → is_monotone (plans_shape (more p g)) ≡ true → plan_shape (chain_plan n (more p g)) ≡ Monotone
    each p none h = of (plan_shape p) (both_monotone (plan_shape p) OneToken h).0
    each p (more q g) h =
        let s = both_monotone (plan_shape p) (plans_shape (more q g)) h in
        ap (λ (t : Shape). of_windows (weaker (plan_shape p) t)) (each q g s.1) ∙ joined_to (plan_shape p) s.0

pub chained_monotone : (g : Plans) → AreChained g → EachMonotone (each_set g)
chained_monotone none h = absurd h
chained_monotone (more p g) h = monotone_plans (more p g) h

pub HasShape-plan : (p : Plan) → HasShape (plan_shape p) (set p)
HasShape-plan p = by (plan_shape p) refl
  where
    by : (s : Shape) → plan_shape p ≡ s → HasShape s (set p)
    by OneToken h = one_token_plan p (ap is_one_token h)
    by Monotone h = monotone_plan p (ap is_monotone h)
    by OneEnd h = one_end_plan p (ap has_one_end h)
    by Any h = tt
