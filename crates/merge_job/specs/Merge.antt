-- What a merge is, and what it leaves.
use Rattle.std.specs.Prelude.{◌≡◌, ℕ, Bool, List, [], ◌∷◌, ◌++◌, Option, None, length, map, take}
use Rattle.std.specs.List.{All, flat_map}
use Rattle.ri_base.specs.Documents.{Document}
use Rattle.store_ends.specs.Files.{Files}
use Rattle.seg_codec.specs.Segment.{entry_of}
use Rattle.disk_index.specs.Snapshots.{Marked, live, unmarked}
use Rattle.merge_job.specs.Cut.{AreCut}
use Rattle.merge_job.specs.Marks.{all_mapped}
use Rattle.merge_job.specs.NewParts.{all_docs, all_marks, docs_in}
use Rattle.merge_job.specs.Walk.{all_of, entries, rest}
use Rattle.merge_job.specs.declared.merged.MergedPart.{MergedPart}

-- the parts as they were at its start, the most documents of a new part, and the documents copied so far
pub record Merging : Type 0 where
  pub snapshot : List Marked
  pub most : ℕ
  pub copied : List Document

-- how many documents it is to copy: those that were live at its start. Their number is the same whatever the files are
abbrev pub size_of : Merging → ℕ
size_of m = length (live None m.snapshot)

-- the documents copied so far are the first live ones of the snapshot, as it reads now
abbrev pub AreTaken : Option Files → Merging → Type 0
AreTaken told m = m.copied ≡ take (length m.copied) (live told m.snapshot)

-- what a job keeps: how many documents it is to copy, and where the next one is
pub record IsJob (m : Merging) (size part id : ℕ) : Type 0 where
  pub sized : (told : Option Files) → size ≡ length (live told m.snapshot)
  pub reached : map entry_of m.copied ++ rest entries m.snapshot part id ≡ all_of entries m.snapshot

-- the new parts have the documents copied, in order and cut as stated, with the marks of now
pub record IsMerged (m : Merging) (nows : List (List Bool)) (parts : List MergedPart) : Type 0 where
  pub docs : all_docs parts ≡ m.copied
  pub marks : all_marks parts ≡ all_mapped m.snapshot nows
  pub whole : All (λ p. length p.marks ≡ length p.docs) parts
  pub cut : AreCut m.most (docs_in parts)

-- the live documents of new parts
abbrev pub live_new : List MergedPart → List Document
live_new parts = flat_map (λ p. unmarked p.docs p.marks) parts

-- the parts under the marks of now
abbrev pub under : List Marked → List (List Bool) → List Marked
under [] nows = []
under (m ∷ ms) [] = []
under (m ∷ ms) (now ∷ nows) = record { source = m.source; marks = now } ∷ under ms nows
