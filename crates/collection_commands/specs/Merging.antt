-- A merge that is run to its end: the live documents alone are held, and what is live is told.
use Rattle.std.specs.Prelude.{ℕ, List, [], ◌∷◌, ◌++◌, codes, length}
use Rattle.std.specs.Fmt.{decimal}
use Rattle.command_pieces.specs.declared.command_fault.CommandFault.{CommandFault}
use Rattle.command_pieces.specs.Pieces.{Piece}
use Rattle.command_pieces.specs.Written.{Plain, told_piece, with_flush}
use Rattle.repository.specs.Merges.{without_dead}
use Rattle.repository.specs.Stands.{Collection}
use Rattle.collection_commands.specs.FaultCauses.{Cause, IsOf, damaged, memory, store, write}

-- merged LIVE
abbrev pub merged_text : ℕ → List ℕ
merged_text live = codes "merged " ++ decimal live ++ 10 ∷ []

abbrev pub merged_piece : Collection → Plain
merged_piece c = told_piece (merged_text (length c.live))

-- all that `merge` does
abbrev pub merge_pieces : Collection → List (Piece Collection)
merge_pieces c = with_flush (without_dead c) (merged_piece c) ∷ []

-- A merge is broken off so: it reads no source, and the repository is open.
abbrev pub merge_causes : List Cause
merge_causes = write ∷ store ∷ damaged ∷ memory ∷ []

abbrev pub IsMergeFault : CommandFault → Type 0
IsMergeFault = IsOf merge_causes
