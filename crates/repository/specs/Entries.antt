-- How parts on disk are listed.
use Rattle.std.specs.Prelude.{ℕ, ◌+◌, Bool, true, false, List, [], ◌∷◌, map}
use Rattle.manifest.specs.declared.manifest.SegEntry.{SegEntry}
use Rattle.disk_index.specs.Parts.{InMemory, OnDisk, Source, size}
use Rattle.disk_index.specs.Snapshots.{Marked}

-- of ids from id on those that are marked
abbrev pub marked_from : ℕ → List Bool → List ℕ
marked_from id [] = []
marked_from id (true ∷ marks) = id ∷ marked_from (id + 1) marks
marked_from id (false ∷ marks) = marked_from (id + 1) marks

-- the part lies in a file
abbrev pub IsOnDisk : Source → Type 0
IsOnDisk (InMemory docs) = ⊥
IsOnDisk (OnDisk kept) = Unit {0}

-- the number of that file; no file has the number 0
abbrev pub number_in : Source → ℕ
number_in (InMemory docs) = 0
number_in (OnDisk kept) = kept.number

-- the entry of a part: the number of its file, how many documents it has, and the ids of the dead ones
abbrev pub entry_for : Marked → SegEntry
entry_for m = record { number = number_in m.source; docs = size m.source; marks = marked_from 0 m.marks }

abbrev pub entries_for : List Marked → List SegEntry
entries_for parts = map entry_for parts
