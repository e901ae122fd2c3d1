-- What the fields of a name hold: extents and positions.
use Rattle.std.specs.Prelude.{ℕ, Bool, ◌&&◌, nat_le, nat_lt, max, List, count_by, fold, if◌then◌else◌}
use Rattle.std.specs.List.{list_any}
use Rattle.std.specs.Str.{bytes_eq}
use Rattle.ri_base.specs.Documents.{Field}
use Rattle.ri_base.specs.Pair.{Pair}
use Rattle.field_extents.specs.Extents.{positions}

-- an extent lies in a field of this name: it begins no earlier than the field and ends no later
abbrev pub lies_in : List ℕ → Pair → Field → Bool
lies_in name x field = bytes_eq field.name name && nat_le field.begin x.begin && nat_le x.end field.end

-- an extent lies in some field of this name
abbrev pub lies_in_some : List Field → List ℕ → Pair → Bool
lies_in_some fields name x = list_any (lies_in name x) fields

-- a position lies in a field of this name
abbrev pub covers : List ℕ → ℕ → Field → Bool
covers name at field = bytes_eq field.name name && nat_le field.begin at && nat_lt at field.end

-- a position lies in some field of this name
abbrev pub is_covered : List Field → List ℕ → ℕ → Bool
is_covered fields name at = list_any (covers name at) fields

-- how many positions of a window do, each counted once
abbrev pub covered_count : List Field → List ℕ → Pair → ℕ
covered_count fields name window = count_by (is_covered fields name) (positions window)

-- the greatest of a number and the ends of the fields of this name
abbrev pub greatest_end : List ℕ → ℕ → List Field → ℕ
greatest_end name least fields = fold (λ reach f. if bytes_eq f.name name then max reach f.end else reach) least fields
