-- The commands that change a repository, and why one of them is broken off.
use Rattle.std.specs.Prelude.{List, [], ◌∷◌}
use Rattle.command_words.specs.Table.{Asks, add, delete, merge, prior}
use Rattle.command_pieces.specs.declared.command_fault.CommandFault.{CommandFault}
use Rattle.collection_commands.specs.FaultCauses.{Cause, IsOf, absent, damaged, memory, present, read, store, write}
use Rattle.indri_app.specs.declared.changing.Change.{Change}
use Rattle.indri_app.specs.declared.changing.Change.TheVariants.{Add, Delete, Merge, Prior}

-- what the words of this command ask for
abbrev pub told_change : Change → Asks
told_change Add = add
told_change Delete = delete
told_change Merge = merge
told_change (Prior name) = prior name

-- an end is to blame, or memory, or the files at entry
abbrev pub over_causes : List Cause
over_causes = read ∷ write ∷ store ∷ damaged ∷ absent ∷ memory ∷ []

abbrev pub IsOverFault : CommandFault → Type 0
IsOverFault = IsOf over_causes

-- it is found before anything is done
abbrev pub first_causes : List Cause
first_causes = damaged ∷ absent ∷ present ∷ []

abbrev pub IsFoundFirst : CommandFault → Type 0
IsFoundFirst = IsOf first_causes
