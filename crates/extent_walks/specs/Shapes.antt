-- How the ends of a set of extents go where their begins rise, and what is known of this before the extents are found.
use Rattle.std.specs.Prelude.{◌≡◌, ℕ, ◌+◌, ◌≤◌, ◌==◌, nat_le, nat_lt, Bool, true, false, Option, Some, None, List, [], ◌∷◌, ⊤, if◌then◌else◌}
use Rattle.ri_base.specs.Pair.{Pair}
use Rattle.extent_lists.specs.Plans.{Plan, Plans, listed, union_of, within, shortest, joined, window, whole, none, more}
use Rattle.extent_walks.specs.declared.shape.Shape.{Shape}
use Rattle.extent_walks.specs.declared.shape.Shape.TheVariants.{OneToken, Monotone, OneEnd, Any}

-- each extent has one token
abbrev pub AreOneToken : (ℕ → ℕ → Type 0) → Type 0
AreOneToken R = (b e : ℕ) → R b e → e ≡ b + 1

-- an extent that begins no earlier than another ends no earlier
abbrev pub AreMonotone : (ℕ → ℕ → Type 0) → Type 0
AreMonotone R = (b e c d : ℕ) → R b e → R c d → b ≤ c → e ≤ d

-- extents of one begin have one end
abbrev pub HaveOneEnd : (ℕ → ℕ → Type 0) → Type 0
HaveOneEnd R = (b d e : ℕ) → R b d → R b e → d ≡ e

-- what is known is true of the set
abbrev pub HasShape : Shape → (ℕ → ℕ → Type 0) → Type 0
HasShape OneToken R = AreOneToken R
HasShape Monotone R = AreMonotone R
HasShape OneEnd R = HaveOneEnd R
HasShape Any R = ⊤

abbrev pub is_monotone : Shape → Bool
is_monotone OneToken = true
is_monotone Monotone = true
is_monotone OneEnd = false
is_monotone Any = false

abbrev pub has_one_end : Shape → Bool
has_one_end OneToken = true
has_one_end Monotone = true
has_one_end OneEnd = true
has_one_end Any = false

-- the one that says less
abbrev pub weaker : Shape → Shape → Shape
weaker OneToken t = t
weaker Monotone OneToken = Monotone
weaker Monotone Monotone = Monotone
weaker Monotone OneEnd = OneEnd
weaker Monotone Any = Any
weaker OneEnd OneToken = OneEnd
weaker OneEnd Monotone = OneEnd
weaker OneEnd OneEnd = OneEnd
weaker OneEnd Any = Any
weaker Any t = Any

-- of windows, by what is known of their arguments: a begin has one window, the one of the least end
abbrev pub of_windows : Shape → Shape
of_windows OneToken = Monotone
of_windows Monotone = Monotone
of_windows OneEnd = OneEnd
of_windows Any = OneEnd

-- of the extents of any argument, by what is known of each
abbrev pub of_union : Shape → Shape
of_union OneToken = OneToken
of_union Monotone = Any
of_union OneEnd = Any
of_union Any = Any

abbrev pub shape_of_one : Pair → Shape
shape_of_one x = if x.end == x.begin + 1 then OneToken else Monotone

-- of a list, by an extent and the next one
abbrev pub shape_before : Pair → Option Pair → Shape
shape_before x None = shape_of_one x
shape_before x (Some y) =
    if nat_le y.begin x.begin then Any else if nat_lt y.end x.end then OneEnd else shape_of_one x

abbrev pub first_of : List Pair → Option Pair
first_of [] = None
first_of (x ∷ xs) = Some x

abbrev pub list_shape : List Pair → Shape
list_shape [] = OneToken
list_shape (x ∷ xs) = weaker (shape_before x (first_of xs)) (list_shape xs)

unfoldable mutual
  pub plan_shape : Plan → Shape
  plan_shape (listed xs) = list_shape xs
  plan_shape (union_of g) = of_union (plans_shape g)
  plan_shape (within p fields) = plan_shape p
  plan_shape (shortest p) = of_windows (plan_shape p)
  plan_shape (joined n p q) = of_windows (weaker (plan_shape p) (plan_shape q))
  plan_shape (window n g) = of_windows (plans_shape g)
  plan_shape (whole n g) = Monotone

  pub plans_shape : Plans → Shape
  plans_shape none = OneToken
  plans_shape (more p g) = weaker (plan_shape p) (plans_shape g)
