-- How far extents and fields have been passed by windows that come in order of their begins.
use Rattle.std.specs.Prelude.{ℕ, ◌<◌, ◌≤◌, List, take}
use Rattle.std.specs.List.{All}
use Rattle.ri_base.specs.Documents.{Field}
use Rattle.ri_base.specs.Pair.{Pair}

-- extents, and how many of the first of them are passed
pub record PassedExtents : Type 0 where
  pub extents : List Pair
  pub passed : ℕ

-- they may be counted in windows from this position on: those that are passed begin before it
abbrev pub BeginBefore : ℕ → PassedExtents → Type 0
BeginBefore position s = All (λ x. x.begin < position) (take s.passed s.extents)

-- an extent begins behind another and ends no earlier, as one word behind another does
abbrev pub Rises : Pair → Pair → Type 0
Rises x y = (x.begin < y.begin) × (x.end ≤ y.end)

-- the fields of a document, a name, and how many of the first fields are passed
pub record PassedFields : Type 0 where
  pub fields : List Field
  pub name : List ℕ
  pub passed : ℕ

-- they may be counted in windows from this position on: those that are passed begin there or before
abbrev pub BeginBy : ℕ → PassedFields → Type 0
BeginBy position s = All (λ f. f.begin ≤ position) (take s.passed s.fields)
