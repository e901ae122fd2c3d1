-- What a walk is over, and that what it remembers and knows is right.
use Rattle.std.specs.Prelude.{◌≡◌, ℕ, Bool, true, Option, List, [], ◌∷◌, ⊤}
use Rattle.ri_base.specs.Pair.{Pair}
use Rattle.extent_walks.specs.Chains.{AreChained, IsReached}
use Rattle.extent_walks.specs.Next.{IsNext}
use Rattle.extent_lists.specs.Plans.{Plan, Plans, listed, union_of, within, shortest, joined, window, whole, none, more, each_set, set}
use Rattle.extent_walks.specs.Shapes.{plan_shape}
use Rattle.extent_walks.specs.declared.place.Place.{Place}
use Rattle.extent_walks.specs.declared.shape.Shape.{Shape}
use Rattle.extent_walks.specs.declared.walk.Walk.{Walk, Listed, Union', Within', Shortest', Joined', Chain', Window', Whole', Row_of-Ahead, end_of-Ahead, more_of-Ahead}
use Rattle.extent_walks.specs.declared.walk.Ahead.{Ahead}

-- the chain of arguments: from the last one on, each joined to the chain of those behind it
abbrev pub chain_plan : ℕ → Plans → Plan
chain_plan n none = listed []
chain_plan n (more p none) = shortest p
chain_plan n (more p (more q g)) = joined n p (chain_plan n (more q g))

unfoldable mutual
  pub plan : Walk → Plan
  plan (Listed xs) = listed xs
  plan (Union' row all) = union_of (row_plans all)
  plan (Within' p w shape asked from found fields) = within (plan w) fields
  plan (Shortest' p w shape asked from found) = shortest (plan w)
  plan (Joined' n p w shape asked from found q v shape_too asked_too from_too found_too) = joined n (plan w) (plan v)
  plan (Chain' n row all reach) = chain_plan n (row_plans all)
  plan (Window' n row all) = window n (row_plans all)
  plan (Whole' n row all) = whole n (row_plans all)

  pub row_plans : {m : _} → Row_of-Ahead m → Plans
  row_plans end_of-Ahead = none
  row_plans (more_of-Ahead w shape asked from found others) = more (plan w) (row_plans others)

abbrev pub plans : List Ahead → Plans
plans [] = none
plans (a ∷ others) = more (plan a.walk) (plans others)

-- what was answered last, if it was asked, is the least from there on
abbrev pub IsAnswer : Plan → Bool → Place → Option Pair → Type 0
IsAnswer p asked from found = asked ≡ true → IsNext (set p) from.begin from.end found

-- the answer is right, and what is known of the extents is what their plan tells
abbrev pub IsRight : Plan → Shape → Bool → Place → Option Pair → Type 0
IsRight p shape asked from found = IsAnswer p asked from found × (shape ≡ plan_shape p)

unfoldable mutual
  -- what is remembered and known is right everywhere
  pub IsKept : Walk → Type 0
  IsKept (Listed xs) = ⊤
  IsKept (Union' row all) = IsRowKept all
  IsKept (Within' p w shape asked from found fields) = IsKept w × IsRight (plan w) shape asked from found
  IsKept (Shortest' p w shape asked from found) = IsKept w × IsRight (plan w) shape asked from found
  IsKept (Joined' n p w shape asked from found q v shape_too asked_too from_too found_too) =
      (IsKept w × IsRight (plan w) shape asked from found) × (IsKept v × IsRight (plan v) shape_too asked_too from_too found_too)
  IsKept (Chain' n row all reach) = IsRowKept all × AreChained (row_plans all) × IsReached n (each_set (row_plans all)) reach
  IsKept (Window' n row all) = IsRowKept all
  IsKept (Whole' n row all) = IsRowKept all

  pub IsRowKept : {m : _} → Row_of-Ahead m → Type 0
  IsRowKept end_of-Ahead = ⊤
  IsRowKept (more_of-Ahead w shape asked from found others) = (IsKept w × IsRight (plan w) shape asked from found) × IsRowKept others

abbrev pub IsAheadKept : Ahead → Type 0
IsAheadKept a = IsKept a.walk × IsRight (plan a.walk) a.shape a.is_asked a.from a.found

abbrev pub AreKept : List Ahead → Type 0
AreKept [] = ⊤
AreKept (a ∷ others) = IsAheadKept a × AreKept others
