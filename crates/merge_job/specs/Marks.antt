-- The marks of now of the documents that a merge copies.
use Rattle.std.specs.Prelude.{◌≡◌, Bool, true, List, [], ◌∷◌, ◌++◌}
use Rattle.std.specs.List.{AllZip}
use Rattle.disk_index.specs.Snapshots.{Marked, unmarked}

-- of the documents of a part that weren't marked before the marks of now, in their order: an old id goes to its place among these
abbrev pub mapped : List Bool → List Bool → List Bool
mapped before now = unmarked now before

-- the same of all parts, one part behind the other
abbrev pub all_mapped : List Marked → List (List Bool) → List Bool
all_mapped [] nows = []
all_mapped (m ∷ ms) [] = []
all_mapped (m ∷ ms) (now ∷ nows) = mapped m.marks now ++ all_mapped ms nows

-- what was marked stays marked
abbrev pub HasGrown : List Bool → List Bool → Type 0
HasGrown before now = AllZip (λ b n. b ≡ true → n ≡ true) before now

-- the same of all parts
abbrev pub HaveGrown : List Marked → List (List Bool) → Type 0
HaveGrown parts nows = AllZip (λ m now. HasGrown m.marks now) parts nows
