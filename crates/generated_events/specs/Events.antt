-- The events that make a generated collection of n documents, and then ask it.
use Rattle.std.specs.Prelude.{ℕ, ◌+◌, ◌/◌, ◌%◌, ◌==◌, ◌||◌, Bool, List, [], ◌∷◌, ◌++◌, codes, flat_map, map, if◌then◌else◌}
use Rattle.std.specs.List.{range_with_len, repeat}
use Rattle.session_events.specs.declared.event.Event.{Event}
use Rattle.session_events.specs.declared.event.Event.TheVariants.{Document, Delete, Flush, Merge, Turn, Open, Step, Show}
use Rattle.generated_events.specs.Documents.{deleted, docno_of, generated, live_count}

-- the documents in order; behind each 1,000th, and behind the last, a flush
abbrev pub is_flushed : ℕ → ℕ → Bool
is_flushed n i = ((i + 1) % 1000 == 0) || (i + 1 == n)

abbrev pub flushes : ℕ → ℕ → List Event
flushes n i = if is_flushed n i then Flush ∷ [] else []

abbrev pub addition : ℕ → ℕ → List Event
addition n i = Document (generated i) ∷ flushes n i

abbrev pub additions : ℕ → List Event
additions n = flat_map (addition n) (range_with_len 0 n)

-- the deletions in order
abbrev pub deletion : ℕ → Event
deletion i = Delete (docno_of i)

abbrev pub deletions : ℕ → List Event
deletions n = map deletion (deleted n)

-- a merge, in so many turns of 500 documents as bring it to its end
abbrev pub turns : ℕ → ℕ
turns n = (live_count n + 499) / 500

abbrev pub turnings : ℕ → List Event
turnings k = repeat k (Turn 500 ∷ [])

-- a query, by its ten first results
abbrev pub name : List ℕ
name = codes "q"

abbrev pub question : Event
question = Open name 10 (codes "w0 #1(w1 w2)")

abbrev pub asking : ℕ → List Event
asking n = question ∷ Step name (live_count n) ∷ []

-- all that comes before the results are shown
abbrev pub quiet_events : ℕ → List Event
quiet_events n = additions n ++ (deletions n ++ (Merge ∷ (turnings (turns n) ++ asking n)))

abbrev pub last_event : Event
last_event = Show name
