-- What a generator has left.
use Rattle.std.specs.Prelude.{◌≡◌, ◌<◌, ◌≤◌, ℕ, ◌+◌, ◌-◌, true, List, [], ◌∷◌, ◌++◌, Option, None, Some, filter, flat_map, map}
use Rattle.std.specs.Coded.{×_prop, Coded-set, Unit-prop, coded_bool, le_prop}
use Rattle.std.specs.List.{range_with_len}
use Rattle.session_events.specs.declared.event.Event.{Event}
use Rattle.session_events.specs.declared.event.Event.TheVariants as event
use Rattle.generated_events.specs.Documents.{is_deleted, live_count}
use Rattle.generated_events.specs.Events.{addition, asking, deletion, deletions, name, turnings, turns}
use Rattle.generated_events.specs.declared.generator.Stage.{Stage}
use Rattle.generated_events.specs.declared.generator.Stage.TheVariants.{Document, Flush, Deletion, Merge, Turn, Question, Step, Ended}

-- the documents from this number on
abbrev pub additions_from : ℕ → ℕ → List Event
additions_from n i = flat_map (addition n) (range_with_len i (n - i))

abbrev pub deletions_from : ℕ → ℕ → List Event
deletions_from n i = map deletion (filter is_deleted (range_with_len i (n - i)))

-- what comes behind all deletions
abbrev pub behind_deletions : ℕ → List Event
behind_deletions n = event.Merge ∷ (turnings (turns n) ++ asking n)

-- what comes behind all documents
abbrev pub behind_additions : ℕ → List Event
behind_additions n = deletions n ++ behind_deletions n

-- of n documents, once this stage is reached
unfoldable pub events_left : ℕ → Stage → List Event
events_left n (Document i) = additions_from n i ++ behind_additions n
events_left n (Flush i) = event.Flush ∷ (additions_from n (i + 1) ++ behind_additions n)
events_left n (Deletion i) = deletions_from n i ++ behind_deletions n
events_left n Merge = behind_deletions n
events_left n (Turn k) = turnings k ++ asking n
events_left n Question = asking n
events_left n Step = event.Step name (live_count n) ∷ []
events_left n Ended = []

-- the numbers of a stage are in their ranges
abbrev pub IsStage : ℕ → Stage → Type 0
IsStage n (Document i) = i < n
IsStage n (Flush i) = i < n
IsStage n (Deletion i) = (i < n) × (is_deleted i ≡ true)
IsStage n (Turn k) = 1 ≤ k
IsStage n stage = Unit {0}

pub IsStage-prop : (n : ℕ) (stage : Stage) → IsProp (IsStage n stage)
IsStage-prop n (Document i) = le_prop
IsStage-prop n (Flush i) = le_prop
IsStage-prop n (Deletion i) = ×_prop le_prop (Coded-set coded_bool (is_deleted i) true)
IsStage-prop n Merge = Unit-prop
IsStage-prop n (Turn k) = le_prop
IsStage-prop n Question = Unit-prop
IsStage-prop n Step = Unit-prop
IsStage-prop n Ended = Unit-prop

-- the event that comes next and those behind its stage, or none
abbrev pub given : ℕ → Option (Event × Stage) → List Event
given n None = []
given n (Some next) = next.0 ∷ events_left n next.1

-- an event comes first of those that are left, or there is none
abbrev pub is_first : Option Event → List Event → List Event
is_first None events = []
is_first (Some e) events = e ∷ events
