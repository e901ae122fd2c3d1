-- How an open merge is tied to the parts that are held.
use Rattle.std.specs.Prelude.{◌≡◌, List, [], ◌∷◌, map}
use Rattle.seg_codec.specs.Segment.{entry_of}
use Rattle.disk_index.specs.Parts.{InMemory, OnDisk, Source}
use Rattle.disk_index.specs.Snapshots.{Marked}
use Rattle.holdings.specs.Contents.{Contents}
use Rattle.merge_job.specs.Marks.{HasGrown}
use Rattle.merge_job.specs.Merge.{Merging}

-- What is in a file stays there. What was in memory is there, or in a file that has documents with the same docnos, lengths and fields.
abbrev pub IsSourceOf : Source → Source → Type 0
IsSourceOf (InMemory docs) (InMemory same) = same ≡ docs
IsSourceOf (InMemory docs) (OnDisk kept) = kept.outlines ≡ map entry_of docs
IsSourceOf (OnDisk kept) (InMemory docs) = ⊥
IsSourceOf (OnDisk kept) (OnDisk same) = same ≡ kept

-- a part goes on from one of the snapshot, and what was marked is marked
abbrev pub GoesOnFrom : Marked → Marked → Type 0
GoesOnFrom m p = IsSourceOf m.source p.source × HasGrown m.marks p.marks

-- the first parts go on from those of the snapshot, one by one
abbrev pub Begins : List Marked → List Marked → Type 0
Begins [] ps = Unit {0}
Begins (m ∷ ms) [] = ⊥
Begins (m ∷ ms) (p ∷ ps) = GoesOnFrom m p × Begins ms ps

-- what a repository keeps of its open merge
pub record IsTied (held : Contents) (m : Merging) : Type 0 where
  pub begins : Begins m.snapshot held.parts.closed
  pub most_is : m.most ≡ held.limits.part_docs
