-- What it comes to where documents are passed: in a range, in a part, and in parts one behind the other.
use Rattle.std.specs.Prelude.{◌≤◌, ◌+◌, ℕ, false, List, Option, Result, IfOk, OnOk, length, take}
use Rattle.ri_base.specs.Documents.{Document}
use Rattle.store_ends.specs.Files.{Files}
use Rattle.disk_index.specs.Snapshots.{Marked, live, unmarked}
use Rattle.document_scoring.specs.Candidates.{Candidate, candidates}
use Rattle.ranker.specs.Blocks.{OpensWithin, opened_at, opened_of}
use Rattle.ranker.specs.First.{Advances, KeptEntries, SpendsWithin, counted}
use Rattle.ranker.specs.Held.{IsHeld, is_open}
use Rattle.ranker.specs.Passed.{IsAheadAt, IsKnown, asked_of, live_ranges, passed, ranges_in, ranges_of}
use Rattle.ranker.specs.Squares.{spent}
use Rattle.ranker.specs.Unbeaten.{Holds, Passes, Sought, Spends, Stretch, early_at, early_in, live_to, met_at, unbeaten_in, work_at, work_in, work_of, work_to}
use Rattle.ranker.specs.declared.held.Held.{Held}
use Rattle.ranker.specs.declared.place.Ahead.{Ahead}
use Rattle.ranker.specs.declared.place.Passed.{Passed}
use Rattle.ranker.specs.declared.place.Place.{Place}

-- the range whose blocks are held, and counts of squarings and of blocks
pub record Tally : Type 0 where
  pub range : ℕ
  pub squares : ℕ
  pub blocks : ℕ

abbrev pub tally : ℕ → ℕ → ℕ → Tally
tally range squares blocks = record { range = range; squares = squares; blocks = blocks }

-- ---- in a part

-- what is known from an id of a part on, by what is searched for
abbrev pub IsKnownIn : Sought → Stretch → ℕ → Ahead → Type 0
IsKnownIn s m id ahead = IsKnown s.kind s.priors s.filters s.network s.tables m.number m.docs id ahead

-- Documents are passed from an id on, up to the end of what is known at most. Where it is done the first candidates are held, and enough
-- is known behind them. Whatever is answered, no more squarings were done than those of the candidates up to that end and of all bounds.
pub record ScoresIn {E : Type 0} (s : Sought) (m : Stretch) (id : ℕ) (ahead : Ahead) (kept next : KeptEntries) (was now : ℕ) (result : Result Passed E) : Type 0 where
  pub first : IfOk result (λ (to : Passed). Advances s.kind s.priors s.filters s.network (unmarked (take id m.docs) m.marks) (unmarked (take to.id m.docs) m.marks) (counted kept was (asked_of m.marks id ahead)) (counted next now (asked_of m.marks to.id to.ahead)))
  pub known : IfOk result (λ (to : Passed). IsKnownIn s m to.id to.ahead)
  pub within : SpendsWithin s.kind s.priors s.filters s.network (unmarked (take id m.docs) m.marks) (unmarked (take ahead.end m.docs) m.marks) (asked_of m.marks id ahead) (live_ranges m.marks (ranges_of (length m.docs))) was now

-- Documents are passed from an id on. Where it is done the first candidates are held, for no more than what was come to, and enough is
-- known behind them. Whatever is answered, no more was spent than in the part as a whole.
pub record PassesIn {E : Type 0} (s : Sought) (terms : ℕ) (m : Stretch) (id : ℕ) (ahead : Ahead) (kept next : KeptEntries) (was now : Tally) (result : Result Passed E) : Type 0 where
  pub first : IfOk result (λ (to : Passed). Passes s terms (live_to m id) (live_to m to.id) kept next (work_to s m id ahead was.range was.squares was.blocks) (work_to s m to.id to.ahead now.range now.squares now.blocks))
  pub known : IfOk result (λ (to : Passed). IsKnownIn s m to.id to.ahead)
  pub within : Holds s (live_to m id) kept → Spends s.network terms (work_to s m id ahead was.range was.squares was.blocks) (work_of s m now.squares now.blocks)

-- The same of blocks alone, whatever the files tell: of so many documents, of one more range than those of which blocks are held, and no
-- more than so many.
pub record OpensIn {E : Type 0} (terms size id : ℕ) (range own was now most : ℕ) (result : Result Passed E) : Type 0 where
  pub opened : IfOk result (λ (to : Passed). OpensWithin terms (opened_of size range id) (opened_of size own to.id) was now)
  pub opens : OpensWithin terms (opened_of size range id) (ranges_of size) was now
  pub few : now ≤ was + most

-- ---- in parts

-- what is known at a place, by what is searched for
abbrev pub IsAheadBy : Sought → Option Files → List Marked → Place → Type 0
IsAheadBy s told parts at = IsAheadAt s.kind s.priors s.filters s.network s.tables told parts at

-- The same in parts, from a place on to another.
pub record PassesAt {R E : Type 0} (s : Sought) (terms : ℕ) (told : Option Files) (parts : List Marked) (at to : Place) (kept next : KeptEntries) (was now : Tally) (result : Result R E) : Type 0 where
  pub first : OnOk result (Passes s terms (passed told parts at) (passed told parts to) kept next (work_at s told parts at was.range was.squares was.blocks) (work_at s told parts to now.range now.squares now.blocks))
  pub known : OnOk result (IsAheadBy s told parts to)
  pub within : Holds s (passed told parts at) kept → Spends s.network terms (work_at s told parts at was.range was.squares was.blocks) (work_in s told parts now.squares now.blocks)

pub record OpensAt {R E : Type 0} (terms : ℕ) (parts : List Marked) (at to : Place) (range own was now most : ℕ) (result : Result R E) : Type 0 where
  pub opened : OnOk result (OpensWithin terms (opened_at parts at range) (opened_at parts to own) was now)
  pub opens : OpensWithin terms (opened_at parts at range) (ranges_in parts) was now
  pub few : now ≤ was + most

-- ---- with what a search holds

abbrev pub IsHeldBy : Sought → List Document → Held → Type 0
IsHeldBy s docs held = IsHeld s.kind s.priors s.filters s.network docs s.most held

abbrev pub found_by : Sought → List Document → List Candidate
found_by s docs = candidates s.kind s.priors s.filters s.network docs

-- The same of what a search holds, which ends where all documents are passed.
pub record TakesAt {R E : Type 0} (s : Sought) (terms : ℕ) (told : Option Files) (parts : List Marked) (at to : Place) (held later : Held) (was now : Tally) (result : Result R E) : Type 0 where
  pub taken : OnOk result (IsHeldBy s (passed told parts to) later)
  pub known : OnOk result (IsAheadBy s told parts to)
  pub squares : OnOk result (now.squares + spent s.network s.most (is_open held) (early_at s told parts at) (found_by s (passed told parts at))
      ≤ was.squares + spent s.network s.most (is_open later) (early_at s told parts to) (found_by s (passed told parts to)))
  pub within : now.squares + spent s.network s.most (is_open held) (early_at s told parts at) (found_by s (passed told parts at))
      ≤ was.squares + spent s.network s.most false (early_in s told parts) (found_by s (live told parts))
  pub met : OnOk result (OpensWithin terms (met_at s told parts at was.range) (met_at s told parts to now.range) was.blocks now.blocks)
  pub meets : OpensWithin terms (met_at s told parts at was.range) (unbeaten_in s told parts (length parts)) was.blocks now.blocks
