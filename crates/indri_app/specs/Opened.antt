-- Why a repository isn't opened.
use Rattle.std.specs.Prelude.{List, [], ◌∷◌}
use Rattle.command_pieces.specs.declared.command_fault.CommandFault.{CommandFault}
use Rattle.collection_commands.specs.FaultCauses.{Cause, IsOf, absent, damaged, memory, store}

-- the store or memory is to blame
abbrev pub want_causes : List Cause
want_causes = store ∷ memory ∷ []

abbrev pub IsWant : CommandFault → Type 0
IsWant = IsOf want_causes

-- or there is none
abbrev pub absent_causes : List Cause
absent_causes = store ∷ absent ∷ memory ∷ []

abbrev pub IsAbsentFault : CommandFault → Type 0
IsAbsentFault = IsOf absent_causes

-- or its files are damaged
abbrev pub open_causes : List Cause
open_causes = store ∷ damaged ∷ absent ∷ memory ∷ []

abbrev pub IsOpenFault : CommandFault → Type 0
IsOpenFault = IsOf open_causes

-- It is open, and a file of it isn't read.
abbrev pub file_causes : List Cause
file_causes = store ∷ damaged ∷ memory ∷ []

abbrev pub IsFileFault : CommandFault → Type 0
IsFileFault = IsOf file_causes
