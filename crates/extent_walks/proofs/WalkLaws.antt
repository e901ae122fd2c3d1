-- walks, variant by variant
use Rattle.std.proofs.Common.{◌≡◌, ℕ, zero, suc, ◌+◌, ◌-◌, ◌<◌, ◌≤◌, max, ⊎_elim, Option, Some, None, IfSome, List, [], ◌∷◌, ◌++◌, length, drop, get_or, slice_set, Box, Vec, Global, add-one, refl, ap, ◌∙◌, arith}
use Rattle.std.proofs.lemmas.List.{drop-set, drop_all, length-set}
use mathlib.Core.Former.{Count}
use Rattle.ri_base.specs.Pair.{Pair}
use Rattle.extent_lists.specs.Plans.{LiesInSome}
use Rattle.extent_lists.specs.Operators.{HasEach, HasEachInside, HasInside, IsInSome, IsLeastEnd, IsWindow, Joins}
use Rattle.extent_lists.specs.Plans.{Plan, Plans, listed, union_of, within, shortest, joined, window, whole, none, more, set, each_set}
use Rattle.extent_lists.specs.Rows.{Has}
use Rattle.extent_walks.specs.Shapes.{list_shape, of_union, of_windows, plan_shape, plans_shape, weaker}
use Rattle.extent_walks.specs.Chains.{AreChained, IsReached}
use Rattle.extent_walks.specs.Walks.{chain_plan, AreKept, IsAheadKept, IsKept, IsRight, IsRowKept, plan, plans, row_plans}
use Rattle.extent_walks.specs.declared.shape.Shape.TheVariants.{Monotone, OneToken}
use Rattle.extent_walks.specs.declared.reach.Reach.{Reach}
use Rattle.extent_walks.specs.declared.walk.Walk.{Walk, Listed, Union, Union', Within, Shortest, Joined, Chain, Chain', Window, Window', Whole, Whole', Row_of-Ahead, end_of-Ahead, more_of-Ahead, items-the_row-Ahead, items_hidden-the_row-Ahead-0}
use Rattle.extent_walks.specs.declared.walk.Ahead.{Ahead}

-- ---- each extent has a token

joins_some : (n : ℕ) (R S : ℕ → ℕ → Type 0) → ((b e : ℕ) → R b e → b < e) → ((b e : ℕ) → S b e → b < e) → (b e : ℕ) → Joins n R S b e → b < e
joins_some n R S r s b e h = omega (arith, r b h.0 h.2, s h.1 e h.4, h.3.0)

pub IfSome-each : (P : ℕ → Type 0) (found : Option ℕ) → ((m : ℕ) → found ≡ Some m → P m) → IfSome found P
IfSome-each P None h = tt
IfSome-each P (Some m) h = h m refl

mutual
  unfolding set each_set

  pub set-some : (p : Plan) (b e : ℕ) → set p b e → b < e
  set-some (listed xs) b e h = h.1
  set-some (union_of g) b e h = sets-some g b e h
  set-some (within p fields) b e h = set-some p b e h.0
  set-some (shortest p) b e h = set-some p b e h.ends
  set-some (joined n p q) b e h = joins_some n (set p) (set q) (set-some p) (set-some q) b e h.ends
  set-some (window n g) b e h = let k = sets-some g b h.ends.begins.0 h.ends.begins.2 in omega (arith, k, h.ends.begins.1)
  set-some (whole n g) b e h = h.2

  pub sets-some : (g : Plans) (b e : ℕ) → IsInSome (each_set g) b e → b < e
  sets-some none b e h = absurd h
  sets-some (more p g) b e h = ⊎_elim (λ k. set-some p b e k) (λ k. sets-some g b e k) h

pub joined_above : (n : ℕ) (p q : Plan) (begin : ℕ) (found : Option ℕ) → ((m : ℕ) → found ≡ Some m → Joins n (set p) (set q) begin m) → IfSome found (λ e. begin < e)
joined_above n p q begin found h = IfSome-each (λ e. begin < e) found (λ m is. joins_some n (set p) (set q) (set-some p) (set-some q) begin m (h m is))

-- ---- how deep operators lie in one another

unfoldable mutual
  pub depth : Plan → ℕ
  depth (listed xs) = 0
  depth (union_of g) = depths g + 1
  depth (within p fields) = depth p + 1
  depth (shortest p) = depth p + 1
  depth (joined n p q) = max (depth p) (depth q) + 1
  depth (window n g) = depths g + 1
  depth (whole n g) = depths g + 1

  -- the deepest of them
  pub depths : Plans → ℕ
  depths none = 0
  depths (more p g) = max (depth p) (depths g)

-- ---- the arguments as a list

abbrev row_of : Walk → (m : Count) × Row_of-Ahead m
row_of (Union' _ row) = (_, row)
row_of (Chain' _ _ row _) = (_, row)
row_of (Window' _ _ row) = (_, row)
row_of (Whole' _ _ row) = (_, row)
row_of _ = (_, end_of-Ahead)

plans_of_row : (m : _) (row : Row_of-Ahead m) → row_plans row ≡ plans (items-the_row-Ahead m row)
unfolding plan row_plans
plans_of_row m end_of-Ahead = refl
plans_of_row m (more_of-Ahead w shape asked from found others) = ap (λ (g : Plans). more (plan w) g) (plans_of_row _ others)

kept_of_row : (m : _) (row : Row_of-Ahead m) → IsRowKept row ≡ AreKept (items-the_row-Ahead m row)
unfolding IsKept IsRowKept
kept_of_row m end_of-Ahead = refl
kept_of_row m (more_of-Ahead w shape asked from found others) = ap (λ (g : Type 0). (IsKept w × IsRight (plan w) shape asked from found) × g) (kept_of_row _ others)

-- ---- plans

pub plan-Listed : (xs : List Pair) → plan (Listed xs) ≡ listed xs
unfolding plan row_plans
plan-Listed xs = refl

pub plan-Union : (v : Vec Ahead Global) → plan (Union v) ≡ union_of (plans v.items)
unfolding plan row_plans
plan-Union v = ap union_of (plans_of_row _ (row_of (Union v)).1 ∙ ap plans (items_hidden-the_row-Ahead-0 v))

pub plan-Within : (b : Box Ahead Global) (fields : List Pair) → plan (Within b fields) ≡ within (plan b.value.walk) fields
unfolding plan row_plans
plan-Within b fields = refl

pub plan-Shortest : (b : Box Ahead Global) → plan (Shortest b) ≡ shortest (plan b.value.walk)
unfolding plan row_plans
plan-Shortest b = refl

pub plan-Joined : (n : ℕ) (b d : Box Ahead Global) → plan (Joined n b d) ≡ joined n (plan b.value.walk) (plan d.value.walk)
unfolding plan row_plans
plan-Joined n b d = refl

pub plan-Chain : (n : ℕ) (v : Vec Ahead Global) (reach : Reach) → plan (Chain n v reach) ≡ chain_plan n (plans v.items)
unfolding plan row_plans
plan-Chain n v reach = ap (λ (g : Plans). chain_plan n g) (plans_of_row _ (row_of (Chain n v reach)).1 ∙ ap plans (items_hidden-the_row-Ahead-0 v))

pub plan-Window : (n : ℕ) (v : Vec Ahead Global) → plan (Window n v) ≡ window n (plans v.items)
unfolding plan row_plans
plan-Window n v = ap (λ (g : Plans). window n g) (plans_of_row _ (row_of (Window n v)).1 ∙ ap plans (items_hidden-the_row-Ahead-0 v))

pub plan-Whole : (n : ℕ) (v : Vec Ahead Global) → plan (Whole n v) ≡ whole n (plans v.items)
unfolding plan row_plans
plan-Whole n v = ap (λ (g : Plans). whole n g) (plans_of_row _ (row_of (Whole n v)).1 ∙ ap plans (items_hidden-the_row-Ahead-0 v))

pub depth-union_of : (g : Plans) → depth (union_of g) ≡ depths g + 1
unfolding depth depths
depth-union_of g = refl

pub depth-within : (p : Plan) (fields : List Pair) → depth (within p fields) ≡ depth p + 1
unfolding depth depths
depth-within p fields = refl

pub depth-shortest : (p : Plan) → depth (shortest p) ≡ depth p + 1
unfolding depth depths
depth-shortest p = refl

pub depth-joined : (n : ℕ) (p q : Plan) → depth (joined n p q) ≡ max (depth p) (depth q) + 1
unfolding depth depths
depth-joined n p q = refl

-- a chain is deeper than its arguments
pub depth-chain : (n : ℕ) (g : Plans) → AreChained g → depths g < depth (chain_plan n g)
unfolding depth depths
depth-chain n none h = absurd h
depth-chain n (more p g) h = deeper p g
  where
    deeper : (p : Plan) (g : Plans) → depths (more p g) < depth (chain_plan n (more p g))
    deeper p none = omega arith
    deeper p (more q g) = let k = deeper q g in omega (arith, k)

pub depth-window : (n : ℕ) (g : Plans) → depth (window n g) ≡ depths g + 1
unfolding depth depths
depth-window n g = refl

pub depth-whole : (n : ℕ) (g : Plans) → depth (whole n g) ≡ depths g + 1
unfolding depth depths
depth-whole n g = refl

-- ---- one argument of several

pub depth-at : (xs : List Ahead) (i : ℕ) (d : Ahead) → i < length xs → depth (plan (get_or xs i d).walk) ≤ depths (plans xs)
unfolding depth depths
depth-at [] i d h = absurd (omega (arith, h))
depth-at (x ∷ xs) zero d h = omega arith
depth-at (x ∷ xs) (suc i) d h = let k = depth-at xs i d (omega (arith, h)) in omega (arith, k)

pub kept-at : (xs : List Ahead) (i : ℕ) (d : Ahead) → i < length xs → AreKept xs → IsAheadKept (get_or xs i d)
kept-at [] i d h k = absurd (omega (arith, h))
kept-at (x ∷ xs) zero d h k = k.0
kept-at (x ∷ xs) (suc i) d h k = kept-at xs i d (omega (arith, h)) k.1

pub HasEach-at : (xs : List Ahead) (i : ℕ) (d : Ahead) → i < length xs → HasEach (each_set (plans xs)) → (b : ℕ) × (e : ℕ) × set (plan (get_or xs i d).walk) b e
unfolding set each_set
HasEach-at [] i d h k = absurd (omega (arith, h))
HasEach-at (x ∷ xs) zero d h k = k.0
HasEach-at (x ∷ xs) (suc i) d h k = HasEach-at xs i d (omega (arith, h)) k.1

pub HasInside-at : (xs : List Ahead) (i : ℕ) (d : Ahead) (b e : ℕ) → i < length xs → HasEachInside (each_set (plans xs)) b e → HasInside (set (plan (get_or xs i d).walk)) b e
unfolding set each_set
HasInside-at [] i d b e h k = absurd (omega (arith, h))
HasInside-at (x ∷ xs) zero d b e h k = k.0
HasInside-at (x ∷ xs) (suc i) d b e h k = HasInside-at xs i d b e (omega (arith, h)) k.1

pub kept-set : (xs : List Ahead) (i : ℕ) (y : Ahead) → AreKept xs → IsAheadKept y → AreKept (slice_set xs i y)
kept-set [] i y k h = tt
kept-set (x ∷ xs) zero y k h = (h, k.1)
kept-set (x ∷ xs) (suc i) y k h = (k.0, kept-set xs i y k.1 h)

pub plans-set : (xs : List Ahead) (i : ℕ) (y d : Ahead) → i < length xs → plan y.walk ≡ plan (get_or xs i d).walk → plans (slice_set xs i y) ≡ plans xs
plans-set [] i y d h e = absurd (omega (arith, h))
plans-set (x ∷ xs) zero y d h e = ap (λ (p : Plan). more p (plans xs)) e
plans-set (x ∷ xs) (suc i) y d h e = ap (λ (g : Plans). more (plan x.walk) g) (plans-set xs i y d (omega (arith, h)) e)

-- of those from a place on, the first and the others
pub plans-from : (xs : List Ahead) (i : ℕ) (d : Ahead) → i < length xs → plans (drop i xs) ≡ more (plan (get_or xs i d).walk) (plans (drop (i + 1) xs))
plans-from xs i d h = rw add-one (from xs i d h)
  where
    from : (xs : List Ahead) (i : ℕ) (d : Ahead) → i < length xs → plans (drop i xs) ≡ more (plan (get_or xs i d).walk) (plans (drop (suc i) xs))
    from [] i d h = absurd (omega (arith, h))
    from (x ∷ xs) zero d h = refl
    from (x ∷ xs) (suc i) d h = from xs i d (omega (arith, h))

-- the one before a place
module _ (xs : List Ahead) (i : ℕ) (old new : Ahead) (some : 0 < i) (inside : i ≤ length xs) (is : old ≡ get_or xs (i - 1) old) where
  pub argument_depth : depth (plan old.walk) ≤ depths (plans xs)
  argument_depth = rw (← is) at (depth-at xs (i - 1) old (omega (arith, some, inside)))

  pub argument_kept : AreKept xs → IsAheadKept old
  argument_kept h = rw (← is) at (kept-at xs (i - 1) old (omega (arith, some, inside)) h)

  pub argument_has : HasEach (each_set (plans xs)) → (b : ℕ) × (e : ℕ) × set (plan old.walk) b e
  argument_has h = rw (← is) at (HasEach-at xs (i - 1) old (omega (arith, some, inside)) h)

  pub argument_inside : (b e : ℕ) → HasEachInside (each_set (plans xs)) b e → HasInside (set (plan old.walk)) b e
  argument_inside b e h = rw (← is) at (HasInside-at xs (i - 1) old b e (omega (arith, some, inside)) h)

  pub plans_stay : plan new.walk ≡ plan old.walk → plans (slice_set xs (i - 1) new) ≡ plans xs
  plans_stay e = plans-set xs (i - 1) new old (omega (arith, some, inside)) (e ∙ ap (λ (a : Ahead). plan a.walk) is)

  pub plans_before : plan new.walk ≡ plan old.walk → plans (drop (i - 1) (slice_set xs (i - 1) new)) ≡ more (plan old.walk) (plans (drop i xs))
  plans_before e =
      let one : (i - 1) + 1 ≡ i = omega (arith, some) in
      ap plans (drop-set xs (i - 1) new (omega (arith, some, inside))) ∙ rw (e, one) refl

-- The arguments from a place on are gone over: what each stands for is as it was.
pub record AreGoneOver (before now : List Ahead) (i : ℕ) : Type 0 where
  pub inside : i ≤ length now
  pub same : plans now ≡ plans before
  pub kept : AreKept now

pub gone_start : (xs : List Ahead) (i : ℕ) → i ≤ length xs → AreKept xs → AreGoneOver xs xs i
gone_start xs i inside kept = record { inside = inside; same = refl; kept = kept }

-- the argument before them
module _ (before xs : List Ahead) (i : ℕ) (old : Ahead) (some : 0 < i) (gone : AreGoneOver before xs i) (is : old ≡ get_or xs (i - 1) old) where
  pub gone_depth : depth (plan old.walk) ≤ depths (plans before)
  gone_depth = omega (arith, ap depths gone.same, argument_depth xs i old old some gone.inside is)

  pub gone_kept : IsAheadKept old
  gone_kept = argument_kept xs i old old some gone.inside is gone.kept

  pub gone_next : (new : Ahead) → plan new.walk ≡ plan old.walk → IsAheadKept new → AreGoneOver before (slice_set xs (i - 1) new) (i - 1)
  gone_next new same kept = record {
    inside = rw length-set (omega (arith, gone.inside));
    same = plans_stay xs i old new some gone.inside is same ∙ gone.same;
    kept = kept-set xs (i - 1) new gone.kept kept;
  }

-- none from the end on
pub plans-past : (xs : List Ahead) (i : ℕ) → length xs ≤ i → plans (drop i xs) ≡ none
plans-past xs i h = ap plans (drop_all i xs h)

-- ---- one argument more

pub AreKept-push : (xs : List Ahead) (y : Ahead) → AreKept xs → IsAheadKept y → AreKept (xs ++ y ∷ [])
AreKept-push [] y h k = (k, tt)
AreKept-push (x ∷ xs) y h k = (h.0, AreKept-push xs y h.1 k)

pub AreKept-pop : (xs : List Ahead) (y : Ahead) → AreKept (xs ++ y ∷ []) → AreKept xs × IsAheadKept y
AreKept-pop [] y h = (tt, h.0)
AreKept-pop (x ∷ xs) y h = let k = AreKept-pop xs y h.1 in ((h.0, k.0), k.1)

-- ---- what is remembered

pub IsKept-Listed : (xs : List Pair) → IsKept (Listed xs)
unfolding IsKept IsRowKept
IsKept-Listed xs = tt

pub IsKept-Union : (v : Vec Ahead Global) → IsKept (Union v) ≡ AreKept v.items
unfolding IsKept IsRowKept
IsKept-Union v = kept_of_row _ (row_of (Union v)).1 ∙ ap AreKept (items_hidden-the_row-Ahead-0 v)

pub IsKept-Within : (b : Box Ahead Global) (fields : List Pair) → IsKept (Within b fields) ≡ IsAheadKept b.value
unfolding IsKept IsRowKept
IsKept-Within b fields = refl

pub IsKept-Shortest : (b : Box Ahead Global) → IsKept (Shortest b) ≡ IsAheadKept b.value
unfolding IsKept IsRowKept
IsKept-Shortest b = refl

pub IsKept-Joined : (n : ℕ) (b d : Box Ahead Global) → IsKept (Joined n b d) ≡ (IsAheadKept b.value × IsAheadKept d.value)
unfolding IsKept IsRowKept
IsKept-Joined n b d = refl

pub IsKept-Chain : (n : ℕ) (v : Vec Ahead Global) (reach : Reach) → IsKept (Chain n v reach) ≡ (AreKept v.items × AreChained (plans v.items) × IsReached n (each_set (plans v.items)) reach)
unfolding IsKept IsRowKept
IsKept-Chain n v reach =
    let row = (row_of (Chain n v reach)).1 in
    let items = items_hidden-the_row-Ahead-0 v in
    let kept : IsRowKept row ≡ AreKept v.items = kept_of_row _ row ∙ ap AreKept items in
    let is : row_plans row ≡ plans v.items = plans_of_row _ row ∙ ap plans items in
    ap (λ (k : Type 0). k × AreChained (row_plans row) × IsReached n (each_set (row_plans row)) reach) kept ∙ ap (λ (g : Plans). AreKept v.items × AreChained g × IsReached n (each_set g) reach) is

pub IsKept-Window : (n : ℕ) (v : Vec Ahead Global) → IsKept (Window n v) ≡ AreKept v.items
unfolding IsKept IsRowKept
IsKept-Window n v = kept_of_row _ (row_of (Window n v)).1 ∙ ap AreKept (items_hidden-the_row-Ahead-0 v)

pub IsKept-Whole : (n : ℕ) (v : Vec Ahead Global) → IsKept (Whole n v) ≡ AreKept v.items
unfolding IsKept IsRowKept
IsKept-Whole n v = kept_of_row _ (row_of (Whole n v)).1 ∙ ap AreKept (items_hidden-the_row-Ahead-0 v)

-- ---- what is known of extents

pub shape-listed : (xs : List Pair) → plan_shape (listed xs) ≡ list_shape xs
unfolding plan_shape plans_shape
shape-listed xs = refl

pub shape-union_of : (g : Plans) → plan_shape (union_of g) ≡ of_union (plans_shape g)
unfolding plan_shape plans_shape
shape-union_of g = refl

pub shape-within : (p : Plan) (fields : List Pair) → plan_shape (within p fields) ≡ plan_shape p
unfolding plan_shape plans_shape
shape-within p fields = refl

pub shape-shortest : (p : Plan) → plan_shape (shortest p) ≡ of_windows (plan_shape p)
unfolding plan_shape plans_shape
shape-shortest p = refl

pub shape-joined : (n : ℕ) (p q : Plan) → plan_shape (joined n p q) ≡ of_windows (weaker (plan_shape p) (plan_shape q))
unfolding plan_shape plans_shape
shape-joined n p q = refl

pub shape-window : (n : ℕ) (g : Plans) → plan_shape (window n g) ≡ of_windows (plans_shape g)
unfolding plan_shape plans_shape
shape-window n g = refl

pub shape-whole : (n : ℕ) (g : Plans) → plan_shape (whole n g) ≡ Monotone
unfolding plan_shape plans_shape
shape-whole n g = refl

pub shapes-none : plans_shape none ≡ OneToken
unfolding plan_shape plans_shape
shapes-none = refl

pub shapes-more : (p : Plan) (g : Plans) → plans_shape (more p g) ≡ weaker (plan_shape p) (plans_shape g)
unfolding plan_shape plans_shape
shapes-more p g = refl

pub weaker-before : (xs : List Ahead) (i : ℕ) (x : Ahead) → 0 < i → i ≤ length xs → x ≡ get_or xs (i - 1) x → AreKept xs → weaker x.shape (plans_shape (plans (drop i xs))) ≡ plans_shape (plans (drop (i - 1) xs))
weaker-before xs i x some inside is kept =
    let one : (i - 1) + 1 ≡ i = omega (arith, some) in
    rw (plans-from xs (i - 1) x (omega (arith, some, inside)), one, ← is, shapes-more, (argument_kept xs i x x some inside is kept).1.1) refl

-- ---- sets

pub set-listed : (xs : List Pair) → set (listed xs) ≡ (λ b e. Has xs b e × (b < e))
unfolding set each_set
set-listed xs = refl

pub set-union_of : (g : Plans) → set (union_of g) ≡ IsInSome (each_set g)
unfolding set each_set
set-union_of g = refl

pub set-within : (p : Plan) (fields : List Pair) → set (within p fields) ≡ (λ b e. set p b e × LiesInSome fields b e)
unfolding set each_set
set-within p fields = refl

pub set-shortest : (p : Plan) → set (shortest p) ≡ IsLeastEnd (set p)
unfolding set each_set
set-shortest p = refl

pub set-joined : (n : ℕ) (p q : Plan) → set (joined n p q) ≡ IsLeastEnd (Joins n (set p) (set q))
unfolding set each_set
set-joined n p q = refl

pub set-window : (n : ℕ) (g : Plans) → set (window n g) ≡ IsLeastEnd (IsWindow n (each_set g))
unfolding set each_set
set-window n g = refl

pub set-whole : (n : ℕ) (g : Plans) → set (whole n g) ≡ (λ b e. (b ≡ 0) × (e ≡ n) × (b < e) × HasEach (each_set g))
unfolding set each_set
set-whole n g = refl

pub each_set-none : each_set none ≡ []
unfolding set each_set
each_set-none = refl

pub each_set-more : (p : Plan) (g : Plans) → each_set (more p g) ≡ set p ∷ each_set g
unfolding set each_set
each_set-more p g = refl

pub ruleset plan_laws = (plan-Listed, plan-Union, plan-Within, plan-Shortest, plan-Joined, plan-Chain, plan-Window, plan-Whole)

pub ruleset kept_laws = (IsKept-Listed, IsKept-Union, IsKept-Within, IsKept-Shortest, IsKept-Joined, IsKept-Chain, IsKept-Window, IsKept-Whole)

pub ruleset shape_laws = (shape-listed, shape-union_of, shape-within, shape-shortest, shape-joined, shape-window, shape-whole, shapes-none, shapes-more)

pub ruleset depth_laws = (depth-union_of, depth-within, depth-shortest, depth-joined, depth-window, depth-whole)

pub ruleset set_laws = (set-listed, set-union_of, set-within, set-shortest, set-joined, set-window, set-whole)

pub ruleset walk_laws = (plan_laws, kept_laws, depth_laws, set_laws)
