-- The last line of a command that is broken off.
use Rattle.std.proofs.Common.{◌≡◌, ◌≤◌, ℕ, List, ap, sym, ◌∙◌, Option, length, arith}
use Rattle.std.proofs.Math.Seq.{take-length}
use Rattle.std.specs.Io.KnownBytes.{append_known}
use Rattle.ri_ends.specs.Causes.{Rose}
use Rattle.store_ends.specs.Files.{Files}
use Rattle.command_pieces.specs.Lines.{EndsIn, WritesLine}
use Rattle.command_pieces.specs.Pieces.{Piece, StoppedBetween}

-- the whole of a line
pub line_whole : (before now : Option (List ℕ)) (line : List ℕ) (count_before count_now : ℕ) → now ≡ append_known before line → WritesLine before now line count_before count_now
line_whole before now line count_before count_now e = record { front = length line; written = e ∙ ap (append_known before) (sym (take-length line)); whole = λ h. absurd (omega (arith, h)) }

rose_before : (before mid now : ℕ) → before ≤ mid → Rose mid now → Rose before now
rose_before before mid now h r = omega (arith, h, r)

pub with-line : {C : Type 0} (line : List ℕ) (stands : C → Option Files → Type 0) (kept : C) (ps : List (Piece C)) (start mid now : Option (List ℕ)) (f : Option Files) (a b c : ℕ)
    → a ≤ b → StoppedBetween stands kept ps start mid f → WritesLine mid now line b c → EndsIn line stands kept ps start now f a c
with-line line stands kept ps start mid now f a b c h s l = record {
  taken = mid;
  stopped = s;
  ended = record { front = l.front; written = l.written; whole = λ short. rose_before a b c h (l.whole short) };
}
