-- The last line of a command that is broken off.
use Rattle.std.specs.Prelude.{ℕ, ◌<◌, List, Option, take, length}
use Rattle.ri_ends.specs.Causes.{Rose}
use Rattle.store_ends.specs.Files.{Files}
use Rattle.command_pieces.specs.Pieces.{Piece, StoppedBetween, Writes}

-- A line was written, whole, or only a front of it where the sink's count rose.
pub record WritesLine (before now : Option (List ℕ)) (line : List ℕ) (count_before count_now : ℕ) : Type 0 where
  pub front : ℕ
  pub written : Writes before now (take front line)
  pub whole : front < length line → Rose count_before count_now

-- The command stopped between two of its pieces, and behind what it had written by then stands a last line.
pub record EndsIn {C : Type 0} (line : List ℕ) (stands : C → Option Files → Type 0) (kept : C) (pieces : List (Piece C)) (before now : Option (List ℕ)) (files : Option Files) (count_before count_now : ℕ) : Type 0 where
  pub taken : Option (List ℕ)
  pub stopped : StoppedBetween stands kept pieces before taken files
  pub ended : WritesLine taken now line count_before count_now
