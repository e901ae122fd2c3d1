-- How far a search has come.
use Rattle.std.specs.Prelude.{◌≡◌, ◌<◌, ◌≤◌, ◌+◌, ◌*◌, ◌/◌, ◌%◌, ◌^◌, ◌==◌, if◌then◌else◌, nat_lt, ℕ, zero, suc, Bool, true, false, List, [], ◌∷◌, ◌++◌, Option, None, Some, cond, drop, length, not, slice_get, take, slice_index_or}
use Rattle.std.specs.Int.{bit_at}
use Rattle.std.specs.List.{list_any}
use Rattle.ri_base.specs.Collection.{document_at}
use Rattle.ri_base.specs.Documents.{Document}
use Rattle.ri_base.specs.Query.{FilterTree}
use Rattle.store_ends.specs.Files.{Files}
use Rattle.query_check.specs.Leaves.{LeafTree}
use Rattle.disk_index.specs.Parts.{InMemory, reads, size}
use Rattle.disk_index.specs.Snapshots.{Marked, live, unmarked}
use Rattle.smoothing.specs.declared.rule.RuleKind.{RuleKind}
use Rattle.belief_nodes.specs.Network.{NetworkTree}
use Rattle.belief_nodes.specs.Priors.{Prior}
use Rattle.range_masks.specs.May.{query_may}
use Rattle.range_bounds.specs.Tables.{IsTableOf}
use Rattle.range_bounds.specs.declared.table.RangeTable.{RangeTable}
use Rattle.ranker.specs.Least.{AreFrom}
use Rattle.ranker.specs.RangeKeys.{range_key}
use Rattle.ranker.specs.declared.place.Ahead.{Ahead}
use Rattle.ranker.specs.declared.place.Passed.{Passed}
use Rattle.ranker.specs.declared.place.Place.{Place}

-- how many of the ids before this one aren't marked
abbrev pub live_ids : List Bool → ℕ → ℕ
live_ids marks zero = 0
live_ids [] (suc i) = 0
live_ids (true ∷ marks) (suc i) = live_ids marks i
live_ids (false ∷ marks) (suc i) = suc (live_ids marks i)

-- from an id on at most so many live documents of a part were passed, and all dead ones among them
pub record IsPassed (marks : List Bool) (id most : ℕ) (to : Passed) : Type 0 where
  pub inside : to.id ≤ length marks
  pub docs : live_ids marks to.id ≡ live_ids marks id + to.docs
  pub few : to.docs ≤ most

-- whether the mask of a range is read, and no bit of it is set
abbrev pub is_clear : Option ℕ → Bool
is_clear None = false
is_clear (Some mask) = mask == 0

-- the bit of an id in the mask of its range; as long as that isn't read, its document may have something to show
abbrev pub bit_of : Option ℕ → ℕ → ℕ
bit_of None id = 1
bit_of (Some mask) id = bit_at mask (id % 64)

-- From an id of a part on, before the end of what is known, no document whose bit isn't set may have something to show.
pub record IsAhead (filters : List FilterTree) (leaves : List LeafTree) (docs : List Document) (id : ℕ) (ahead : Ahead) : Type 0 where
  pub none : (i : ℕ) → id ≤ i → i < ahead.end → bit_of ahead.mask i ≡ 0 → query_may filters leaves (document_at docs i) ≡ false

-- a live document of a part before the end of what is known, whose bit isn't set
pub record IsBare (m : Marked) (ahead : Ahead) (id : ℕ) : Type 0 where
  pub whole : length m.marks ≡ size m.source
  pub inside : id < size m.source
  pub live : slice_index_or m.marks id false ≡ false
  pub known : id < ahead.end
  pub clear : bit_of ahead.mask id ≡ 0

-- so many documents from an id on are such
abbrev pub AreBare : Marked → Ahead → ℕ → ℕ → Type 0
AreBare m ahead id count = (i : ℕ) → id ≤ i → i < id + count → IsBare m ahead i

abbrev pub nothing_known : Ahead
nothing_known = record { end = 0; mask = None; bound = None }

-- the live documents of a part before an id
abbrev pub live_before : Option Files → Marked → ℕ → List Document
live_before told m id = unmarked (take id (reads told m.source)) m.marks

-- the part of a number; behind the last one stands one without documents
abbrev pub part_at : List Marked → ℕ → Marked
part_at parts part = slice_index_or parts part (record { source = InMemory []; marks = [] })

-- the live documents before a place: those of the parts before its part, and in this part those before its id
abbrev pub passed : Option Files → List Marked → Place → List Document
passed told parts at = live told (take at.part parts) ++ live_before told (part_at parts at.part) at.id

-- the table of the part of a number, where there is one, is that of these documents
abbrev pub IsTold : NetworkTree → List RangeTable → ℕ → List Document → Type 0
IsTold network tables number docs = (t : RangeTable) → slice_get tables number ≡ Some t → IsTableOf network.leaves docs t

-- What is known from an id on ends there or behind it, inside of so many documents, where a range of 64 ids ends. Where some may have
-- something to show, that is the range of this id.
pub record IsSpan (size id : ℕ) (ahead : Ahead) : Type 0 where
  pub back : id ≤ ahead.end
  pub inside : ahead.end ≤ size
  pub whole : ahead.end < size → ahead.end % 64 ≡ 0
  pub short : is_clear ahead.mask ≡ false → ahead.end ≤ 64 * (id / 64 + 1)

-- What is known from an id of a part on: also what is told of the keys of the candidates before its end, and by a table of ranges.
pub record IsKnown (kind : RuleKind) (priors : List Prior) (filters : List FilterTree) (network : NetworkTree) (tables : List RangeTable) (number : ℕ) (docs : List Document) (id : ℕ) (ahead : Ahead) : Type 0 where
  pub may : IsAhead filters network.leaves docs id ahead
  pub least : (n i : ℕ) → ahead.bound ≡ Some n → id ≤ i → i < ahead.end → AreFrom kind priors network n (document_at docs i)
  pub key : (n i : ℕ) → ahead.bound ≡ Some n → id ≤ i → i < ahead.end → n ≡ range_key kind priors network docs (i / 64)
  pub told : IsTold network tables number docs
  pub span : IsSpan (length docs) id ahead

-- what is known at a place is so of the documents of its part, as they read by these files, and each part has its own table
pub record IsAheadAt (kind : RuleKind) (priors : List Prior) (filters : List FilterTree) (network : NetworkTree) (tables : List RangeTable) (told : Option Files) (parts : List Marked) (at : Place) : Type 0 where
  pub here : IsKnown kind priors filters network tables at.part (reads told (part_at parts at.part).source) at.id at.ahead
  pub each : (number : ℕ) → IsTold network tables number (reads told (part_at parts number).source)

-- a place in these parts, and how many live documents stand before it
pub record IsPlace (parts : List Marked) (at : Place) : Type 0 where
  pub part : at.part ≤ length parts
  pub id : at.id ≤ size (part_at parts at.part).source
  pub credit : (told : Option Files) → at.credit ≡ length (passed told parts at)

-- the place behind documents of its part: the next part begins where they are fewer than were asked for
abbrev pub behind : Place → Passed → ℕ → Place
behind at to most = if nat_lt to.docs most then record { part = at.part + 1; id = 0; credit = at.credit + to.docs; ahead = nothing_known } else record { part = at.part; id = to.id; credit = at.credit + to.docs; ahead = to.ahead }

-- While the credit stays below a number, no less than now and no more than so many, the documents that come next have nothing to show,
-- and their ids have 32 bits.
pub record IsBareTo (parts : List Marked) (at : Place) (count to : ℕ) : Type 0 where
  pub from : at.credit ≤ to
  pub left : to ≤ count
  pub ids : at.id + to ≤ at.credit + 2 ^ 32
  pub bare : (docs : ℕ) → at.credit + docs < to → AreBare (part_at parts at.part) at.ahead at.id docs

-- how many ranges of 64 ids so many ids have
abbrev pub ranges_of : ℕ → ℕ
ranges_of size = (size + 63) / 64

-- how many ranges parts have
abbrev pub ranges_in : List Marked → ℕ
ranges_in [] = 0
ranges_in (m ∷ parts) = ranges_of (size m.source) + ranges_in parts

-- whether a range has an id that isn't marked
abbrev pub has_live : List Bool → ℕ → Bool
has_live marks range = list_any not (take 64 (drop (64 * range) marks))

-- how many of so many first ranges have one
abbrev pub live_ranges : List Bool → ℕ → ℕ
live_ranges marks zero = 0
live_ranges marks (suc n) = live_ranges marks n + cond (has_live marks n) 1 0

-- the ranges with live ids before that of an id, and with a bound up to the end of what is known
abbrev pub asked_by : List Bool → Option ℕ → ℕ → ℕ → ℕ
asked_by marks None id end = live_ranges marks (id / 64)
asked_by marks (Some least) id end = live_ranges marks (ranges_of end)

-- of how many ranges of a part, at most, a bound was asked for before an id
abbrev pub asked_of : List Bool → ℕ → Ahead → ℕ
asked_of marks id ahead = asked_by marks ahead.bound id ahead.end

-- how many ranges of a part have live documents
abbrev pub layout_in : Marked → ℕ
layout_in m = live_ranges m.marks (ranges_of (size m.source))

-- so of parts
abbrev pub layout : List Marked → ℕ
layout [] = 0
layout (m ∷ parts) = layout_in m + layout parts

-- of how many ranges of the parts, at most, a bound was asked for before a place
abbrev pub asked_at : List Marked → Place → ℕ
asked_at parts at = layout (take at.part parts) + asked_of (part_at parts at.part).marks at.id at.ahead
