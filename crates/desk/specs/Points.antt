-- Which events write, and what the files stand for behind one.
use Rattle.std.specs.Prelude.{Bool, true, false, if◌then◌else◌}
use Rattle.repository.specs.Stands.{Collection}
use Rattle.session_events.specs.declared.event.Event.{Event}
use Rattle.session_events.specs.declared.event.Event.TheVariants as event
use Rattle.desk.specs.State.{State, collection_of}
use Rattle.desk.specs.Told.{Told, is_flush_point}

-- what the files stand for behind a step
abbrev pub kept_behind : Collection → State × Told → Collection
kept_behind kept r = if is_flush_point r.1 then collection_of r.0 else kept

-- an event that may write to the store
abbrev pub may_write : Event → Bool
may_write event.Flush = true
may_write (event.Turn docs) = true
may_write event.End = true
may_write e = false

-- an event that never asks the store
abbrev pub is_inside : Event → Bool
is_inside (event.Document d) = true
is_inside (event.Delete docno) = true
is_inside event.Merge = true
is_inside (event.Show name) = true
is_inside (event.Close name) = true
is_inside e = false

-- an event whose refusal rests on what a search has found
abbrev pub needs_hits : Event → Bool
needs_hits (event.Explain name rank) = true
needs_hits e = false
