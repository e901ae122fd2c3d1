-- The ranges of 64 ids that a search can't pass for their bounds, and the work of a search by these. A range whose bound is no greater
-- than the k-th least upper bound of the candidates before it may have one of the first k. This is the project's own.
use Rattle.std.specs.Prelude.{◌==◌, ◌&&◌, ◌+◌, ◌*◌, ◌/◌, ℕ, zero, suc, Bool, false, not, cond, if◌then◌else◌, List, [], ◌∷◌, ◌++◌, Option, length, map, take, slice_index_or}
use Rattle.ri_base.specs.Collection.{document_at}
use Rattle.ri_base.specs.Documents.{Document}
use Rattle.ri_base.specs.Query.{FilterTree}
use Rattle.store_ends.specs.Files.{Files}
use Rattle.smoothing.specs.declared.rule.RuleKind.{RuleKind}
use Rattle.belief_nodes.specs.Network.{NetworkTree}
use Rattle.belief_nodes.specs.Priors.{Prior}
use Rattle.disk_index.specs.Parts.{reads, size}
use Rattle.disk_index.specs.Snapshots.{Marked, live, unmarked}
use Rattle.bounded_keys.specs.Kept.{is_beaten_by}
use Rattle.bounded_keys.specs.declared.entry.Entry.{Entry}
use Rattle.document_scoring.specs.Candidates.{candidates}
use Rattle.range_bounds.specs.declared.table.RangeTable.{RangeTable}
use Rattle.ranker.specs.Blocks.{OpensWithin}
use Rattle.ranker.specs.First.{AsksWithin, HoldsFirst, KeptEntries, scale_of}
use Rattle.ranker.specs.Passed.{asked_at, asked_of, has_live, layout, live_ranges, part_at, ranges_of}
use Rattle.ranker.specs.RangeKeys.{has_table, range_key}
use Rattle.ranker.specs.Squares.{entry_by}
use Rattle.ranker.specs.declared.place.Ahead.{Ahead}
use Rattle.ranker.specs.declared.place.Place.{Place}
use Rattle.ranker.specs.declared.window.Window.{Window}

-- ---- ranges of a part

-- what is searched for, with tables of ranges by the numbers of the parts, and of how many results
pub record Sought : Type 0 where
  pub kind : RuleKind
  pub priors : List Prior
  pub filters : List FilterTree
  pub network : NetworkTree
  pub tables : List RangeTable
  pub most : ℕ

abbrev pub sought : RuleKind → List Prior → List FilterTree → NetworkTree → List RangeTable → ℕ → Sought
sought kind priors filters network tables most = record { kind = kind; priors = priors; filters = filters; network = network; tables = tables; most = most }

-- the documents of a part with their marks, behind the live documents of earlier parts
pub record Stretch : Type 0 where
  pub number : ℕ
  pub before : List Document
  pub docs : List Document
  pub marks : List Bool

abbrev pub stretch : ℕ → List Document → List Document → List Bool → Stretch
stretch number before docs marks = record { number = number; before = before; docs = docs; marks = marks }

-- the live documents before an id
abbrev pub live_to : Stretch → ℕ → List Document
live_to m id = m.before ++ unmarked (take id m.docs) m.marks

-- the document of an id, where it is live
abbrev pub live_at : Stretch → ℕ → List Document
live_at m id = cond (slice_index_or m.marks id false) [] (document_at m.docs id ∷ [])

-- the first candidates of documents are held
abbrev pub Holds : Sought → List Document → KeptEntries → Type 0
Holds s docs kept = HoldsFirst s.kind s.priors s.filters s.network docs s.most kept

-- how many candidates documents have
abbrev pub candidate_count : Sought → List Document → ℕ
candidate_count s docs = length (candidates s.kind s.priors s.filters s.network docs)

-- whether keys that a number leads can't be among the first, behind the candidates of these documents
abbrev pub is_beaten_behind : Sought → List Document → ℕ → Bool
is_beaten_behind s docs least = is_beaten_by (λ (x : Entry Window). x.leading) (scale_of s.network) s.most (map (entry_by s.network) (candidates s.kind s.priors s.filters s.network docs)) least

-- whether a range may have candidates that are among the first: its part has no table, or its bound isn't beaten by the candidates before it
abbrev pub is_unbeaten : Sought → Stretch → ℕ → Bool
is_unbeaten s m range = not (has_table s.tables m.number && is_beaten_behind s (live_to m (64 * range)) (range_key s.kind s.priors s.network m.docs range))

-- how many of so many first ranges are such and have a live document
abbrev pub unbeaten : Sought → Stretch → ℕ → ℕ
unbeaten s m zero = 0
unbeaten s m (suc n) = unbeaten s m n + cond (has_live m.marks n && is_unbeaten s m n) 1 0

-- how many candidates the documents of so many first ids have in such ranges
abbrev pub scored : Sought → Stretch → ℕ → ℕ
scored s m zero = 0
scored s m (suc id) = scored s m id + cond (is_unbeaten s m (id / 64)) (candidate_count s (live_at m id)) 0

-- ---- ranges of parts

abbrev pub stretch_at : Option Files → List Marked → ℕ → Stretch
stretch_at told parts part = stretch part (live told (take part parts)) (reads told (part_at parts part).source) (part_at parts part).marks

-- of so many first parts
abbrev pub unbeaten_in : Sought → Option Files → List Marked → ℕ → ℕ
unbeaten_in s told parts zero = 0
unbeaten_in s told parts (suc part) = unbeaten_in s told parts part + unbeaten s (stretch_at told parts part) (ranges_of (length (part_at parts part).marks))

abbrev pub scored_in : Sought → Option Files → List Marked → ℕ → ℕ
scored_in s told parts zero = 0
scored_in s told parts (suc part) = scored_in s told parts part + scored s (stretch_at told parts part) (size (part_at parts part).source)

-- ---- work

-- squarings that were counted, and of how many bounds and candidates they are, at most; blocks that were counted, and of how many ranges
-- they are, at most
pub record Work : Type 0 where
  pub squares : ℕ
  pub early : ℕ
  pub blocks : ℕ
  pub opened : ℕ

-- no more squarings were done, and no more blocks of so many terms opened, than those of what was come to behind it
pub record Spends (network : NetworkTree) (terms : ℕ) (was now : Work) : Type 0 where
  pub squares : AsksWithin network was.early now.early was.squares now.squares
  pub blocks : OpensWithin terms was.opened now.opened was.blocks now.blocks

-- where the first candidates of the old documents were held, those of the new ones are held now, and no more was done than that
pub record Passes (s : Sought) (terms : ℕ) (old new : List Document) (kept next : KeptEntries) (was now : Work) : Type 0 where
  pub step : Holds s old kept → Holds s new next
  pub spends : Holds s old kept → Spends s.network terms was now

-- the ranges before that of an id, with this one where its blocks are those that are held
abbrev pub come_to : ℕ → ℕ → ℕ
come_to range id = if range == id / 64 then id / 64 + 1 else id / 64

-- before an id of a part
abbrev pub work_to : Sought → Stretch → ℕ → Ahead → ℕ → ℕ → ℕ → Work
work_to s m id ahead range squares blocks = record { squares = squares; early = asked_of m.marks id ahead + scored s m id; blocks = blocks; opened = unbeaten s m (come_to range id) }

-- in a part as a whole
abbrev pub work_of : Sought → Stretch → ℕ → ℕ → Work
work_of s m squares blocks = record { squares = squares; early = live_ranges m.marks (ranges_of (length m.docs)) + scored s m (length m.docs); blocks = blocks; opened = unbeaten s m (ranges_of (length m.marks)) }

-- of how many bounds and candidates squarings were done before a place, at most
abbrev pub early_at : Sought → Option Files → List Marked → Place → ℕ
early_at s told parts at = asked_at parts at + (scored_in s told parts at.part + scored s (stretch_at told parts at.part) at.id)

-- so of all parts
abbrev pub early_in : Sought → Option Files → List Marked → ℕ
early_in s told parts = layout parts + scored_in s told parts (length parts)

-- of how many ranges blocks were opened before a place, at most
abbrev pub met_at : Sought → Option Files → List Marked → Place → ℕ → ℕ
met_at s told parts at range = unbeaten_in s told parts at.part + unbeaten s (stretch_at told parts at.part) (come_to range at.id)

-- before a place
abbrev pub work_at : Sought → Option Files → List Marked → Place → ℕ → ℕ → ℕ → Work
work_at s told parts at range squares blocks = record { squares = squares; early = early_at s told parts at; blocks = blocks; opened = met_at s told parts at range }

-- in all parts
abbrev pub work_in : Sought → Option Files → List Marked → ℕ → ℕ → Work
work_in s told parts squares blocks = record { squares = squares; early = early_in s told parts; blocks = blocks; opened = unbeaten_in s told parts (length parts) }
