-- What a command writes that changes no files: none of its pieces is a flush point, and nothing is said of files.
use Rattle.std.specs.Prelude.{ℕ, true, false, List, map, Option, Some, None}
use Rattle.store_ends.specs.Files.{Files}
use Rattle.command_pieces.specs.Lines.{EndsIn}
use Rattle.command_pieces.specs.Pieces.{BrokenOff, Finished, Piece, StoppedBetween}

-- a piece of such a command
abbrev pub Plain : Type 0
Plain = Piece (Unit {0})

-- a text that says what was asked for
abbrev pub told_piece : List ℕ → Plain
told_piece text = record { text = text; is_refusal = false; flushes = None }

-- a text that says that something is refused
abbrev pub refused_piece : List ℕ → Plain
refused_piece text = record { text = text; is_refusal = true; flushes = None }

-- any files will do
abbrev pub AnyFiles : Unit {0} → Option Files → Type 0
AnyFiles kept files = Unit {0}

-- All pieces were written.
abbrev pub AllWritten : List Plain → Option (List ℕ) → Option (List ℕ) → Type 0
AllWritten pieces before now = Finished AnyFiles tt pieces before now None

-- The first pieces were written, and of the next one only a front, which isn't the whole.
abbrev pub CutWithin : List Plain → Option (List ℕ) → Option (List ℕ) → Type 0
CutWithin pieces before now = BrokenOff AnyFiles tt pieces before now None

-- The first pieces were written, and nothing of the next one.
abbrev pub CutBetween : List Plain → Option (List ℕ) → Option (List ℕ) → Type 0
CutBetween pieces before now = StoppedBetween AnyFiles tt pieces before now None

-- The same, and then a last line.
abbrev pub CutThenLine : List ℕ → List Plain → Option (List ℕ) → Option (List ℕ) → ℕ → ℕ → Type 0
CutThenLine line pieces before now count_before count_now = EndsIn line AnyFiles tt pieces before now None count_before count_now

-- ---- the same pieces in a command that changes files

-- a piece that is no flush point
abbrev pub without_flush : {C : Type 0} → Plain → Piece C
without_flush p = record { text = p.text; is_refusal = p.is_refusal; flushes = None }

abbrev pub unflushed : {C : Type 0} → List Plain → List (Piece C)
unflushed pieces = map without_flush pieces

-- a piece behind which the files stand for this
abbrev pub with_flush : {C : Type 0} → C → Plain → Piece C
with_flush c p = record { text = p.text; is_refusal = p.is_refusal; flushes = Some c }
