-- Why a session is broken off, and `gen`.
use Rattle.std.specs.Prelude.{List, [], ◌∷◌}
use Rattle.command_pieces.specs.declared.command_fault.CommandFault.{CommandFault}
use Rattle.collection_commands.specs.FaultCauses.{Cause, IsOf, damaged, memory, present, read, store, write}
use Rattle.collection_commands.specs.Merging.{IsMergeFault}

-- an end, a file or memory is to blame; a repository is open, so there is a manifest
abbrev pub session_causes : List Cause
session_causes = read ∷ write ∷ store ∷ damaged ∷ memory ∷ []

abbrev pub IsSessionFault : CommandFault → Type 0
IsSessionFault = IsOf session_causes

-- the same within an item, for which nothing is read, as for a merge
abbrev pub IsItemFault : CommandFault → Type 0
IsItemFault = IsMergeFault

-- `gen` reads no source and needs no repository.
abbrev pub gen_causes : List Cause
gen_causes = write ∷ store ∷ damaged ∷ present ∷ memory ∷ []

abbrev pub IsGenFault : CommandFault → Type 0
IsGenFault = IsOf gen_causes

-- And so it is broken off before it writes.
abbrev pub silent_causes : List Cause
silent_causes = store ∷ damaged ∷ present ∷ memory ∷ []

abbrev pub IsSilentFault : CommandFault → Type 0
IsSilentFault = IsOf silent_causes
