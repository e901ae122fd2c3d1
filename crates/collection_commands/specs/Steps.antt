-- What the steps of a command leave of the ends and of the files.
use Rattle.std.specs.Prelude.{◌≡◌, ◌≢◌, ◌≤◌, ℕ, List, Option, Result, Err, IfErr, IsErrOf, OnOk}
use Rattle.ri_ends.specs.Causes.{Rose}
use Rattle.store_ends.specs.Files.{Files, Leaves}
use Rattle.command_pieces.specs.CommandFaults.{IsBrokenBy}
use Rattle.command_pieces.specs.Pieces.{Finished, Piece, StandsAlong}
use Rattle.command_pieces.specs.declared.command_fault.CommandFault.{CommandFault}
use Rattle.repository.specs.RealLimits.{StandsFor}
use Rattle.repository.specs.Stands.{Collection}
use Rattle.repository.specs.States.{State}
use Rattle.collection_commands.specs.Ahead.{IsAhead}

-- The count of an end's failures: it rose where the answer is the fault of that end, and stays where it isn't.
pub record CountsFault {A E : Type 0} (own : E) (result : Result A E) (before now : ℕ) : Type 0 where
  pub rose : IsErrOf result own → Rose before now
  pub later : before ≤ now
  pub same : result ≢ Err own → now ≡ before

-- Over a repository that is ahead of its files the pieces are done, or the first of them where it is broken off; and at each moment the
-- files stand for what they stand for behind some of them.
pub record Does {A : Type 0} (told : Option Files) (s : State) (pieces : Collection → List (Piece Collection)) (result : Result A CommandFault) (before now : Option (List ℕ)) (after : Option Files) (past since : ℕ → Files → Type 0) : Type 0 where
  pub finished : (kept c : Collection) → IsAhead told s kept c → OnOk result (Finished StandsFor kept (pieces c) before now after)
  pub broken : (kept c : Collection) → IsAhead told s kept c → IfErr result (λ fault. IsBrokenBy fault StandsFor kept (pieces c) before now after)
  pub stops : (kept c : Collection) → IsAhead told s kept c → Leaves past since (StandsAlong StandsFor kept (pieces c))
