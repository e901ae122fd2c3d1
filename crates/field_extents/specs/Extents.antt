-- Extents in order and inside a window. A window is an extent too, over a part of a document.
use Rattle.std.specs.Prelude.{◌≡◌, ◌<◌, ◌≤◌, ◌-◌, ℕ, Bool, ◌&&◌, nat_eq, nat_le, List, filter, map, ◌⊎◌}
use Rattle.std.specs.List.{AllPairs, range_with_len}
use Rattle.std.specs.Set.{distinct_count}
use Rattle.ri_base.specs.Pair.{Pair}

-- one extent may stand before another: by begin, then end; equal ones may follow each other
abbrev pub IsNoLater : Pair → Pair → Type 0
IsNoLater x y = (x.begin < y.begin) ⊎ (x.begin ≡ y.begin) × (x.end ≤ y.end)

abbrev pub AreInOrder : List Pair → Type 0
AreInOrder xs = AllPairs IsNoLater xs

-- an extent lies inside a window: it begins no earlier and ends no later
abbrev pub is_inside : Pair → Pair → Bool
is_inside window x = nat_le window.begin x.begin && nat_le x.end window.end

-- where extents begin, a begin for each extent
abbrev pub begins : List Pair → List ℕ
begins xs = map (λ x. x.begin) xs

-- how many begins the extents inside a window have, each begin counted once
abbrev pub begin_count : List Pair → Pair → ℕ
begin_count xs window = distinct_count nat_eq (begins (filter (is_inside window) xs))

-- the positions of a window, from its begin on up to its end, that one not among them
abbrev pub positions : Pair → List ℕ
positions window = range_with_len window.begin (window.end - window.begin)
