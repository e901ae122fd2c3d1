-- The cause of a fault, and the faults of some causes alone.
use Rattle.std.specs.Prelude.{Bool, true, false, ◌||◌, List, [], ◌∷◌, MatchBool, ⊤}
use Rattle.command_pieces.specs.declared.command_fault.CommandFault.{CommandFault}
use Rattle.command_pieces.specs.declared.command_fault.CommandFault.TheVariants.{Exists, Malformed, Memory, Missing, NoRepository, Read, Store, Write}

-- A file that is missing, or isn't in its grammar, is damaged. There is no manifest, or there is one already.
pub data Cause : Type 0 where
  read : Cause
  write : Cause
  store : Cause
  damaged : Cause
  absent : Cause
  present : Cause
  memory : Cause

abbrev pub cause_of : CommandFault → Cause
cause_of Read = read
cause_of Write = write
cause_of Store = store
cause_of (Malformed file part place) = damaged
cause_of (Missing file) = damaged
cause_of NoRepository = absent
cause_of Exists = present
cause_of Memory = memory

abbrev pub is_cause : Cause → Cause → Bool
is_cause read read = true
is_cause write write = true
is_cause store store = true
is_cause damaged damaged = true
is_cause absent absent = true
is_cause present present = true
is_cause memory memory = true
is_cause c d = false

abbrev pub is_among : List Cause → Cause → Bool
is_among [] c = false
is_among (d ∷ ds) c = is_cause d c || is_among ds c

-- its cause is one of these
abbrev pub IsOf : List Cause → CommandFault → Type 0
IsOf causes why = MatchBool (is_among causes (cause_of why)) ⊤ ⊥
