-- A merge that is open, and what it leaves.
use Rattle.std.specs.Prelude.{◌≡◌, ◌+◌, ◌-◌, ℕ, Bool, true, false, List, [], ◌∷◌, ◌++◌, Option, None, Some, IfSome, length, map, take, drop, nat_lt, if◌then◌else◌}
use Rattle.std.specs.List.{All, AllZip}
use Rattle.ri_base.specs.Collection.{token_count}
use Rattle.store_ends.specs.Files.{Files}
use Rattle.seg_codec.specs.Segment.{entry_of}
use Rattle.disk_index.specs.Parts.{InMemory, outlines_of, reads}
use Rattle.disk_index.specs.Snapshots.{AreBacked, AreIntact, Marked, documents_held, live, unmarked}
use Rattle.holdings.specs.Contents.{all_closed}
use Rattle.holdings.specs.MarkedParts.{tokens_held}
use Rattle.holdings.specs.Parts.{sealed}
use Rattle.merge_job.specs.Merge.{AreTaken, IsMerged, Merging, size_of}
use Rattle.merge_job.specs.declared.merged.MergedPart.{MergedPart}
use Rattle.repository.specs.Entries.{IsOnDisk}
use Rattle.repository.specs.Numbers.{is_among, next_behind}
use Rattle.repository.specs.Saved.{unsaved}
use Rattle.repository.specs.Stale.{with_stale}
use Rattle.repository.specs.Stands.{Collection, Stands}
use Rattle.repository.specs.States.{IsBacked, IsStateIntact, ReadsAs, State, listed_numbers, part_numbers}
use Rattle.repository.specs.Steps.{with_held}
use Rattle.repository.specs.declared.turned.Turned.{Turned}
use Rattle.repository.specs.declared.turned.Turned.TheVariants.{Done, Open}

-- ---- the condition under which a merge leaves the live documents as they are

-- each document of the snapshot that wasn't deleted since its start reads in the parts as it does in the snapshot
abbrev pub ReadAlike : Option Files → List Marked → List Marked → Type 0
ReadAlike told [] ps = Unit {0}
ReadAlike told (m ∷ ms) [] = ⊥
ReadAlike told (m ∷ ms) (p ∷ ps) = (unmarked (reads told p.source) p.marks ≡ unmarked (reads told m.source) p.marks) × ReadAlike told ms ps

-- Repository and snapshot are backed, they read alike, and what was copied is what the snapshot reads as.
pub record IsMerging (told : Option Files) (s : State) (m : Merging) : Type 0 where
  pub backed : IsBacked told s
  pub snapshot : AreBacked told m.snapshot
  pub alike : ReadAlike told m.snapshot s.held.parts.closed
  pub taken : AreTaken told m

-- the same of the merge that is open, where one is
abbrev pub IsOpenMerging : Option Files → State → Type 0
IsOpenMerging told s = IfSome s.merge (IsMerging told s)

-- ---- where a merge is opened, goes on or is given up

-- another merge is open, or none
abbrev pub with_merge : State → Option Merging → State
with_merge s merge = record { held = s.held; next = s.next; stale = s.stale; priors = s.priors; merge = merge; usable = s.usable }

-- a merge of the closed parts of which nothing is copied yet
abbrev pub merge_of : State → Merging
merge_of s = record { snapshot = (sealed s.held.parts).closed; most = s.held.limits.part_docs; copied = [] }

-- the part that was being filled is closed, and a merge of all parts is open
abbrev pub merge_begun : State → State
merge_begun s = with_merge (with_held s (all_closed s.held)) (Some (merge_of s))

-- what becomes of a turn of so many documents
abbrev pub turned : Merging → ℕ → Turned
turned m docs = if nat_lt (length m.copied + docs) (size_of m) then Open (length m.copied + docs) (size_of m) else Done

-- the merge goes on: so many documents more are copied, and all else is as it was
pub record IsTurnedOn (docs : ℕ) (s t : State) : Type 0 where
  pub before : Merging
  pub was : s.merge ≡ Some before
  pub now : Merging
  pub is : t ≡ with_merge s (Some now)
  pub snapshot : now.snapshot ≡ before.snapshot
  pub most : now.most ≡ before.most
  pub copied : length now.copied ≡ length before.copied + docs

-- ---- where it is done

-- a new part, as it is held
abbrev pub held_part : MergedPart → Marked
held_part p = record { source = InMemory p.docs; marks = p.marks }

abbrev pub marks_of : List Marked → List (List Bool)
marks_of parts = map (λ m. m.marks) parts

-- New parts, cut as stated, have the documents that were copied with the marks of the first old parts, and stand in the place of
-- these, in front of the later ones.
pub record IsExchange (m : Merging) (old new : List Marked) : Type 0 where
  pub news : List MergedPart
  pub merged : IsMerged m (marks_of (take (length m.snapshot) old)) news
  pub parts : new ≡ map held_part news ++ drop (length m.snapshot) old
  pub all : length m.copied ≡ size_of m
  pub entries : (told : Option Files) → map entry_of m.copied ≡ map entry_of (live told m.snapshot)

-- numbers that rise, with several in their places among them
abbrev pub all_stale : List ℕ → List ℕ → List ℕ
all_stale stale [] = stale
all_stale stale (n ∷ ns) = all_stale (with_stale stale n) ns

-- the part has documents with the same docnos, lengths and fields, and the same marks
abbrev pub IsSameShape : Marked → Marked → Type 0
IsSameShape p q = (q.marks ≡ p.marks) × (outlines_of q.source ≡ outlines_of p.source)

-- The merge is done and closed. New parts stand in the place of those of its snapshot, all parts are in files, none of which a part
-- of the snapshot has, and the files of the parts that were exchanged are stale. All files that were listed are listed, and the new
-- ones have the next numbers, one each.
pub record IsMergeEnded (job : Merging) (s t : State) : Type 0 where
  pub made : List Marked
  pub exchange : IsExchange job (sealed s.held.parts).closed made
  pub parts : AllZip IsSameShape made t.held.parts.closed
  pub closed : t.merge ≡ None
  pub on_disk : All (λ m. IsOnDisk m.source) t.held.parts.closed
  pub none_filling : t.held.parts.filling ≡ []
  pub in_turn : t.next ≡ next_behind s.next (unsaved made)
  pub stale : t.stale ≡ all_stale s.stale (part_numbers (take (length job.snapshot) s.held.parts.closed))
  pub unlisted : (n : ℕ) → is_among n (part_numbers job.snapshot) ≡ true → is_among n (part_numbers t.held.parts.closed) ≡ false
  pub listed : (n : ℕ) → is_among n (listed_numbers s) ≡ true → is_among n (listed_numbers t) ≡ true
  pub limits : t.held.limits ≡ s.held.limits
  pub generation : t.held.generation ≡ s.held.generation
  pub priors : t.priors ≡ s.priors

-- the merge that was open is done, once all was copied
pub record IsMergedTo (s t : State) : Type 0 where
  pub before : Merging
  pub was : s.merge ≡ Some before
  pub job : Merging
  pub snapshot : job.snapshot ≡ before.snapshot
  pub most : job.most ≡ before.most
  pub ended : IsMergeEnded job s t

abbrev pub IsTurnedTo : Turned → ℕ → State → State → Type 0
IsTurnedTo (Open credit size) docs s t = IsTurnedOn docs s t
IsTurnedTo Done docs s t = IsMergedTo s t

-- ---- what stays of other snapshots

-- the files of these parts are listed
abbrev pub AreListed : State → List Marked → Type 0
AreListed s parts = (n : ℕ) → is_among n (part_numbers parts) ≡ true → is_among n (listed_numbers s) ≡ true

-- The parts are backed still, and read as before. Where their files were read as they were put, they still are.
pub record StaysBacked (before now : Option Files) (parts : List Marked) : Type 0 where
  pub backed : AreBacked now parts
  pub reads : live now parts ≡ live before parts
  pub intact : AreIntact before parts → AreIntact now parts

-- ---- what the repository reads as then

-- the dead of the start
abbrev pub dead_documents : List Marked → ℕ
dead_documents snapshot = documents_held snapshot - length (live None snapshot)

abbrev pub dead_tokens : List Marked → ℕ
dead_tokens snapshot = tokens_held snapshot - token_count (live None snapshot)

-- the dead of the start of its merge are no longer held
abbrev pub without_dead_of : Option Merging → Collection → Collection
without_dead_of None c = c
without_dead_of (Some m) c = record {
  live = c.live;
  documents = c.documents - dead_documents m.snapshot;
  tokens = c.tokens - dead_tokens m.snapshot;
  priors = c.priors;
}

-- of a merge of all that is held no dead one is left
abbrev pub without_dead : Collection → Collection
without_dead c = record { live = c.live; documents = length c.live; tokens = token_count c.live; priors = c.priors }

-- what becomes of a collection by a turn of this merge
abbrev pub after_turn : Turned → Option Merging → Collection → Collection
after_turn (Open credit size) merge c = c
after_turn Done merge c = without_dead_of merge c

-- The live documents stay, the condition of an open merge holds on, and once the merge is done the files stand for what it reads as.
-- Where the files of its parts were read as they were put, those of its parts now are too.
pub record IsTurnedOver (turn : Turned) (merge : Option Merging) (before now : Option Files) (s t : State) : Type 0 where
  pub reads : (d : Collection) → ReadsAs before s d → ReadsAs now t (after_turn turn merge d)
  pub backed : IsBacked now t
  pub merging : IsOpenMerging now t
  pub intact : IsStateIntact before s → IsStateIntact now t
  pub stands : turn ≡ Done → (d : Collection) → ReadsAs before s d → Stands s.held.limits now (without_dead_of merge d)
