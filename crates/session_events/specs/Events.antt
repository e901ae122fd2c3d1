-- What an event of a session may hold.
use Rattle.std.specs.Prelude.{◌≡◌, ◌≤◌, ℕ, Bool, false, true}
use Rattle.std.specs.Str.{is_utf8}
use Rattle.session_events.specs.declared.event.TheConstants.{MAX_RESULTS, MAX_TURN_DOCS}
use Rattle.session_events.specs.declared.event.Event.{Event}
use Rattle.session_events.specs.declared.event.Event.TheVariants.{Document, Delete, Flush, Merge, Turn, Open, Step, Show, Explain, Scan, Close, End}

abbrev pub IsFrom1To : ℕ → ℕ → Type 0
IsFrom1To most n = (1 ≤ n) × (n ≤ most)

-- Its numbers are in their ranges and its text is UTF-8. What a docno, a name or a document may be is said by its type.
abbrev pub IsSessionEvent : Event → Type 0
IsSessionEvent (Document d) = Unit {0}
IsSessionEvent (Delete docno) = Unit {0}
IsSessionEvent Flush = Unit {0}
IsSessionEvent Merge = Unit {0}
IsSessionEvent (Turn n) = IsFrom1To MAX_TURN_DOCS n
IsSessionEvent (Open name k text) = IsFrom1To MAX_RESULTS k × (is_utf8 text ≡ true)
IsSessionEvent (Step name n) = IsFrom1To MAX_TURN_DOCS n
IsSessionEvent (Show name) = Unit {0}
IsSessionEvent (Explain name rank) = IsFrom1To MAX_RESULTS rank
IsSessionEvent (Scan text) = is_utf8 text ≡ true
IsSessionEvent (Close name) = Unit {0}
IsSessionEvent End = Unit {0}

-- the session ends with it
abbrev pub is_end : Event → Bool
is_end End = true
is_end _ = false
