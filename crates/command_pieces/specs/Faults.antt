-- Why a command is broken off, and what is done by then.
use Rattle.std.specs.Prelude.{ℕ, ◌≡◌, ◌≢◌, List, Option, None, Result, Err}
use Rattle.store_ends.specs.Files.{Files}
use Rattle.command_pieces.specs.Pieces.{BrokenOff, Piece, StoppedBetween}
use Rattle.command_pieces.specs.Written.{AnyFiles, Plain}
use Rattle.command_pieces.specs.declared.fault.Fault.{Fault}
use Rattle.command_pieces.specs.declared.fault.Fault.TheVariants.{Memory, Read, Write}

-- Only where the sink failed may a front of a piece be written.
abbrev pub IsBroken : {C : Type 0} → Fault → (C → Option Files → Type 0) → C → List (Piece C) → Option (List ℕ) → Option (List ℕ) → Option Files → Type 0
IsBroken Read stands kept pieces before now files = StoppedBetween stands kept pieces before now files
IsBroken Write stands kept pieces before now files = BrokenOff stands kept pieces before now files
IsBroken Memory stands kept pieces before now files = StoppedBetween stands kept pieces before now files

-- The same of a command that changes no files.
abbrev pub IsCut : Fault → List Plain → Option (List ℕ) → Option (List ℕ) → Type 0
IsCut fault pieces before now = IsBroken fault AnyFiles tt pieces before now None

-- The count of an end stays at every answer but the fault of that end.
abbrev pub StaysUnless : {X : Type 0} → Fault → Result X Fault → ℕ → ℕ → Type 0
StaysUnless fault result before now = result ≢ Err fault → now ≡ before
