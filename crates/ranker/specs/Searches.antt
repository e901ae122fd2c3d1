-- What a search keeps between its steps.
use Rattle.std.specs.Prelude.{◌≡◌, ◌≤◌, ◌+◌, ◌*◌, ℕ, false, List, Option, length, map}
use Rattle.ri_base.specs.Documents.{Document}
use Rattle.ri_base.specs.Query.{FilterTree, filter_tree}
use Rattle.ri_base.specs.declared.hit.Hit.{Hit}
use Rattle.store_ends.specs.Files.{Files}
use Rattle.smoothing.specs.declared.rule.RuleKind.{RuleKind}
use Rattle.query_check.specs.Answers.{whole_checked}
use Rattle.belief_nodes.specs.Network.{network_tree}
use Rattle.belief_nodes.specs.Priors.{Prior}
use Rattle.disk_index.specs.Parts.{reads}
use Rattle.disk_index.specs.Snapshots.{live}
use Rattle.document_scoring.specs.Candidates.{candidates}
use Rattle.ranker.specs.Held.{IsHeld, is_open}
use Rattle.range_masks.specs.Held.{AreAnswersOf}
use Rattle.ranker.specs.Blocks.{OpensWithin, opened_at}
use Rattle.ranker.specs.Passed.{IsAheadAt, IsTold, part_at, passed}
use Rattle.ranker.specs.Ranking.{IsAnswerBy}
use Rattle.ranker.specs.Squares.{spent}
use Rattle.ranker.specs.Unbeaten.{Sought, early_at, early_in, met_at, sought, unbeaten_in}
use Rattle.ranker.specs.declared.search.Search.{Search}

-- the documents of its snapshot, as they read by these files
abbrev pub searched : Option Files → Search → List Document
searched told s = live told s.snapshot

abbrev pub filters_of : Search → List FilterTree
filters_of s = map filter_tree s.checked.filters.items

-- each of its tables of ranges is that of its part, as it reads by these files
abbrev pub AreTold : Option Files → Search → Type 0
AreTold told s = (number : ℕ) → IsTold (network_tree s.network) s.tables.items number (reads told (part_at s.snapshot number).source)

-- the blocks that it keeps are those of its part, as it reads by these files
abbrev pub told_by : Option Files → Search → Type 0
told_by told s = AreAnswersOf (reads told (part_at s.snapshot s.at.part).source) s.blocks

-- What it has taken so far is that of the documents that it passed, and what it knows of those that come next is so, as they read by
-- these files, also by the blocks that it keeps.
pub record IsTaken (kind : RuleKind) (priors : List Prior) (told : Option Files) (s : Search) : Type 0 where
  pub held : IsHeld kind priors (filters_of s) (network_tree s.network) (passed told s.snapshot s.at) s.most s.held
  pub ahead : IsAheadAt kind priors (filters_of s) (network_tree s.network) s.tables.items told s.snapshot s.at
  pub blocks : told_by told s

-- the answer of the search over these documents
abbrev pub IsAnswerOf : RuleKind → List Prior → Search → List Document → List Hit → Type 0
IsAnswerOf kind priors s docs hits = IsAnswerBy kind priors (filters_of s) (network_tree s.network) docs s.most hits

-- a step changes nothing of what is searched for
pub record IsSameSearch (old new : Search) : Type 0 where
  pub snapshot : new.snapshot ≡ old.snapshot
  pub checked : whole_checked new.checked ≡ whole_checked old.checked
  pub network : network_tree new.network ≡ network_tree old.network
  pub most : new.most ≡ old.most

-- what it looks for by these priors
abbrev pub sought_by : RuleKind → List Prior → Search → Sought
sought_by kind priors s = sought kind priors (filters_of s) (network_tree s.network) s.tables.items s.most

-- what the search has spent on squarings at most, by the ranges that it has come to and the candidates of those that it couldn't pass
abbrev pub spent_by : RuleKind → List Prior → Option Files → Search → ℕ
spent_by kind priors told s = spent (network_tree s.network) s.most (is_open s.held) (early_at (sought_by kind priors s) told s.snapshot s.at) (candidates kind priors (filters_of s) (network_tree s.network) (passed told s.snapshot s.at))

-- what it spends on squarings in the whole: of bounds of ranges that have a live document, of candidates of ranges that it can't pass, and
-- of those that may be among the first
abbrev pub whole_cost : RuleKind → List Prior → Option Files → Search → ℕ
whole_cost kind priors told s = spent (network_tree s.network) s.most false (early_in (sought_by kind priors s) told s.snapshot) (candidates kind priors (filters_of s) (network_tree s.network) (searched told s))

-- of how many ranges that it couldn't pass it has opened the blocks, at most
abbrev pub met_by : RuleKind → List Prior → Option Files → Search → ℕ
met_by kind priors told s = met_at (sought_by kind priors s) told s.snapshot s.at s.blocks.range

-- how many ranges it can't pass in the whole
abbrev pub unbeaten_by : RuleKind → List Prior → Option Files → Search → ℕ
unbeaten_by kind priors told s = unbeaten_in (sought_by kind priors s) told s.snapshot (length s.snapshot)

-- the numbers of what it has spent are no more than those of what it has come to
pub record StaysWithin (kind : RuleKind) (priors : List Prior) (told : Option Files) (s : Search) : Type 0 where
  pub squares : s.spent.squared ≤ spent_by kind priors told s
  pub blocks : s.spent.opened ≤ length s.terms * met_by kind priors told s

-- of how many ranges of its parts it has opened the blocks, at most
abbrev pub opened_by : Search → ℕ
opened_by s = opened_at s.snapshot s.at s.blocks.range

-- ---- what a step changes

-- where what was taken was so before, it is so now
abbrev pub StaysTaken : RuleKind → List Prior → Option Files → Search → Search → Type 0
StaysTaken kind priors told old new = IsTaken kind priors told old → IsTaken kind priors told new

-- and the numbers that are kept stay within what was come to
abbrev pub StaysSpent : RuleKind → List Prior → Option Files → Search → Search → Type 0
StaysSpent kind priors told old new = IsTaken kind priors told old → StaysWithin kind priors told old → StaysWithin kind priors told new

-- no more squarings were done than what was spent rose by
abbrev pub SpendsTo : RuleKind → List Prior → Option Files → Search → Search → ℕ → ℕ → Type 0
SpendsTo kind priors told old new before now = IsTaken kind priors told old → now + spent_by kind priors told old ≤ before + spent_by kind priors told new

-- than are left to the whole
abbrev pub SpendsAtMost : RuleKind → List Prior → Option Files → Search → ℕ → ℕ → Type 0
SpendsAtMost kind priors told old before now = IsTaken kind priors told old → now + spent_by kind priors told old ≤ before + whole_cost kind priors told old

-- no more blocks were opened than one of each term in each range more that it couldn't pass
abbrev pub MeetsTo : RuleKind → List Prior → Option Files → Search → Search → ℕ → ℕ → Type 0
MeetsTo kind priors told old new before now = IsTaken kind priors told old → OpensWithin (length old.terms) (met_by kind priors told old) (met_by kind priors told new) before now

-- in each that is left
abbrev pub MeetsAtMost : RuleKind → List Prior → Option Files → Search → ℕ → ℕ → Type 0
MeetsAtMost kind priors told old before now = IsTaken kind priors told old → OpensWithin (length old.terms) (met_by kind priors told old) (unbeaten_by kind priors told old) before now
