-- How `gen` ends where it finds no manifest, and what is done by then. `files` are those at entry.
use Rattle.std.specs.Prelude.{◌≡◌, ℕ, List, None, Option, Some}
use Rattle.store_ends.specs.Files.{Files, Leaves}
use Rattle.command_pieces.specs.CommandFaults.{IsBrokenBy}
use Rattle.command_pieces.specs.Pieces.{Finished, StandsAlong, kept_behind}
use Rattle.command_pieces.specs.declared.command_fault.CommandFault.{CommandFault}
use Rattle.holdings.specs.declared.limits.Limits.{Limits}
use Rattle.repository.specs.RealLimits.{AreReal}
use Rattle.generated_events.specs.Events.{last_event}
use Rattle.collection_commands.specs.Creation.{IsMade}
use Rattle.script_reader.specs.declared.item.Item.TheVariants.{Event}
use Rattle.indri_app.specs.Generated.{AreGenPieces, MakingPiece, made_state, silent_pieces}
use Rattle.indri_app.specs.GeneratedTexts.{gen_text}
use Rattle.indri_app.specs.Orders.{IsTrueItem}

-- all of it is done
abbrev pub IsGenerated : ℕ → Files → Option (List ℕ) → Option (List ℕ) → Option Files → Type 0
IsGenerated n files before now told = (pieces : List MakingPiece) × AreGenPieces n pieces × Finished (IsMade (Some files)) None pieces before now told

-- it is broken off at some of its pieces
abbrev pub IsGenBroken : CommandFault → ℕ → Files → Option (List ℕ) → Option (List ℕ) → Option Files → Type 0
IsGenBroken why n files before now told = (pieces : List MakingPiece) × AreGenPieces n pieces × IsBrokenBy why (IsMade (Some files)) None pieces before now told

-- the files stand for what they stand for behind some of its pieces before anything is written
abbrev pub StandsSome : ℕ → Files → Option Files → Type 0
StandsSome n files told = (limits : Limits) × AreReal limits × StandsAlong (IsMade (Some files)) None (silent_pieces n limits) told

-- so do those that a stop leaves behind some of all
abbrev pub StopsSome : ℕ → Files → (ℕ → Files → Type 0) → (ℕ → Files → Type 0) → Type 0
StopsSome n files past since = (pieces : List MakingPiece) × AreGenPieces n pieces × Leaves past since (StandsAlong (IsMade (Some files)) None pieces)

-- the collection is made, and this is to be written
pub record IsMadeWith (n : ℕ) (files : Files) (text : List ℕ) (told : Option Files) : Type 0 where
  pub limits : Limits
  pub real : AreReal limits
  pub text_is : text ≡ gen_text n (made_state n limits)
  pub files_stand : IsMade (Some files) (kept_behind None (silent_pieces n limits)) told
  pub order : IsTrueItem (made_state n limits) (Event last_event)
