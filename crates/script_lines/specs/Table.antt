-- What a line of the table may ask for.
use Rattle.session_events.specs.Events.{IsFrom1To, IsSessionEvent}
use Rattle.session_events.specs.declared.event.TheConstants.{MAX_ADD_BYTES}
use Rattle.session_events.specs.declared.event.Event.{Event}
use Rattle.session_events.specs.declared.event.Event.TheVariants.{Document, Delete, Flush, Merge, Turn, Open, Step, Show, Explain, Scan, Close, End as EndEvent}
use Rattle.script_lines.specs.declared.asked.Asked.{Asked}
use Rattle.script_lines.specs.declared.asked.Asked.TheVariants.{Nothing, Unknown, Event as event, Add, End}

-- an event of a line: no document and not the end, with its numbers in their ranges and its text in UTF-8
abbrev pub IsLineEvent : Event → Type 0
IsLineEvent (Document d) = ⊥
IsLineEvent (Delete docno) = IsSessionEvent (Delete docno)
IsLineEvent Flush = IsSessionEvent Flush
IsLineEvent Merge = IsSessionEvent Merge
IsLineEvent (Turn n) = IsSessionEvent (Turn n)
IsLineEvent (Open name k text) = IsSessionEvent (Open name k text)
IsLineEvent (Step name n) = IsSessionEvent (Step name n)
IsLineEvent (Show name) = IsSessionEvent (Show name)
IsLineEvent (Explain name rank) = IsSessionEvent (Explain name rank)
IsLineEvent (Scan text) = IsSessionEvent (Scan text)
IsLineEvent (Close name) = IsSessionEvent (Close name)
IsLineEvent EndEvent = ⊥

abbrev pub IsInTable : Asked → Type 0
IsInTable Nothing = Unit {0}
IsInTable Unknown = Unit {0}
IsInTable (event e) = IsLineEvent e
IsInTable (Add n) = IsFrom1To MAX_ADD_BYTES n
IsInTable End = Unit {0}
