-- What is found of a leaf in a document, and what is counted of it in windows one behind the other.
use Rattle.std.specs.Prelude.{ℕ, ◌<◌, ◌≤◌, ◌-◌, List}
use Rattle.std.specs.List.{All}
use Rattle.ri_base.specs.Documents.{Field}
use Rattle.ri_base.specs.Pair.{Pair}
use Rattle.field_extents.specs.Extents.{AreInOrder, begin_count}
use Rattle.field_extents.specs.Fields.{covered_count}
use Rattle.field_extents.specs.Passed.{BeginBefore, BeginBy, PassedExtents, PassedFields}
use Rattle.belief_nodes.specs.declared.leaf_count.LeafCount.{LeafCount}
use Rattle.document_scoring.specs.declared.counters.Counter.{Counter}
use Rattle.document_scoring.specs.declared.counters.Counter.TheVariants as counter
use Rattle.document_scoring.specs.declared.found.LeafExtents.{LeafExtents}
use Rattle.document_scoring.specs.declared.found.LeafExtents.TheVariants as extents

-- the counts in a window of what is found in a document with these fields
abbrev pub found_count : List Field → Pair → LeafExtents → LeafCount
found_count fields w (extents.Plain xs) = record { tf = begin_count xs w; len = w.end - w.begin }
found_count fields w (extents.Inside xs name) = record { tf = begin_count xs w; len = covered_count fields name.now w }
found_count fields w extents.Prior = record { tf = 0; len = 0 }

-- in each window no more extents begin than there are positions covered
abbrev pub IsFewer : List Pair → List Field → List ℕ → Type 0
IsFewer xs fields name = (w : Pair) → begin_count xs w ≤ covered_count fields name w

-- extents in order, in fields of a name no more than these cover
abbrev pub IsFound : List Field → LeafExtents → Type 0
IsFound fields (extents.Plain xs) = AreInOrder xs
IsFound fields (extents.Inside xs name) = AreInOrder xs × IsFewer xs fields name.now
IsFound fields extents.Prior = Unit {0}

-- the counts in a window of extents, by the fields in which they lie
abbrev pub inside_count : Pair → PassedExtents → PassedFields → LeafCount
inside_count w s f = record { tf = begin_count s.extents w; len = covered_count f.fields f.name w }

-- the counts in a window of what a counter holds
abbrev pub counter_count : Pair → Counter → LeafCount
counter_count w (counter.Plain s) = record { tf = begin_count s.extents w; len = w.end - w.begin }
counter_count w (counter.Inside c) = inside_count w c.begins c.cover
counter_count w counter.Prior = record { tf = 0; len = 0 }

-- extents that have a token each, of which those that are passed begin before the position
pub record IsBegun (position : ℕ) (s : PassedExtents) : Type 0 where
  pub some : All (λ x. x.begin < x.end) s.extents
  pub passed : BeginBefore position s

-- the same in fields that cover no fewer positions
pub record IsBegunInside (position : ℕ) (s : PassedExtents) (f : PassedFields) : Type 0 where
  pub extents : IsBegun position s
  pub fields : BeginBy position f
  pub few : IsFewer s.extents f.fields f.name

-- a counter may count in windows from this position on
abbrev pub IsReady : ℕ → Counter → Type 0
IsReady position (counter.Plain s) = IsBegun position s
IsReady position (counter.Inside c) = IsBegunInside position c.begins c.cover
IsReady position counter.Prior = Unit {0}
