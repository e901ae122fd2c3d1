-- Expressions over lists: the leaves are lists of extents, and the operators those that find extents one by one.
use Rattle.std.specs.Prelude.{◌≡◌, ◌<◌, ◌↔◌, ℕ, ◌+◌, List, [], ◌∷◌, ⊤}
use Rattle.ri_base.specs.Documents.{Document}
use Rattle.ri_base.specs.Expression.{ExprTree}
use Rattle.ri_base.specs.Pair.{Pair}
use Rattle.extent_lists.specs.Extents.{Ext}
use Rattle.extent_lists.specs.Operators.{HasEach, IsInSome, IsInside, IsLeastEnd, IsWindow, Joins}
use Rattle.extent_lists.specs.Rows.{Has}

-- the extent from b to e lies in one of these
abbrev pub LiesInSome : List Pair → ℕ → ℕ → Type 0
LiesInSome xs b e = (from : ℕ) × (to : ℕ) × Has xs from to × IsInside b e from to

mutual
  pub data Plan : Type 0 where
    listed : List Pair → Plan
    union_of : Plans → Plan
    within : Plan → List Pair → Plan
    shortest : Plan → Plan
    joined : ℕ → Plan → Plan → Plan
    window : ℕ → Plans → Plan
    whole : ℕ → Plans → Plan

  pub data Plans : Type 0 where
    none : Plans
    more : Plan → Plans → Plans

unfoldable mutual
  -- the set of its extents
  pub set : Plan → ℕ → ℕ → Type 0
  set (listed xs) b e = Has xs b e × (b < e)
  set (union_of g) b e = IsInSome (each_set g) b e
  set (within p fields) b e = set p b e × LiesInSome fields b e
  set (shortest p) b e = IsLeastEnd (set p) b e
  set (joined n p q) b e = IsLeastEnd (Joins n (set p) (set q)) b e
  set (window n g) b e = IsLeastEnd (IsWindow n (each_set g)) b e
  set (whole n g) b e = (b ≡ 0) × (e ≡ n) × (b < e) × HasEach (each_set g)

  pub each_set : Plans → List (ℕ → ℕ → Type 0)
  each_set none = []
  each_set (more p g) = set p ∷ each_set g

-- the plan has just the extents of the expression in the document
abbrev pub Gives : Plan → ExprTree → Document → Type 0
Gives p t d = (b e : ℕ) → set p b e ↔ Ext t d b e

-- each plan has those of its expression
abbrev pub GiveEach : Plans → List ExprTree → Document → Type 0
GiveEach none [] d = ⊤
GiveEach none (t ∷ ts) d = ⊥
GiveEach (more p g) [] d = ⊥
GiveEach (more p g) (t ∷ ts) d = Gives p t d × GiveEach g ts d

-- a number that no begin and no end of these extents passes
abbrev pub list_bound : List Pair → ℕ
list_bound [] = 0
list_bound (x ∷ xs) = x.begin + x.end + 1 + list_bound xs

unfoldable mutual
  -- no extent of the plan begins or ends there or behind
  pub plan_bound : Plan → ℕ
  plan_bound (listed xs) = list_bound xs
  plan_bound (union_of g) = plans_bound g
  plan_bound (within p fields) = plan_bound p
  plan_bound (shortest p) = plan_bound p
  plan_bound (joined n p q) = plan_bound p + plan_bound q
  plan_bound (window n g) = plans_bound g
  plan_bound (whole n g) = 1 + n + plans_bound g

  pub plans_bound : Plans → ℕ
  plans_bound none = 0
  plans_bound (more p g) = plan_bound p + plans_bound g
