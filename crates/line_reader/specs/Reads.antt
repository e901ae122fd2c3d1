-- What a reader of lines stands for, and what its answer says.
use Rattle.std.specs.Prelude.{ℕ, ◌≡◌, ◌<◌, false, List, length, Option, Some, None, IfSome}
use Rattle.std.specs.Option.{option_map}
use Rattle.std.specs.Io.KnownBytes.{IsAtEnd}
use Rattle.read_ahead.specs.Ahead.{Ahead}
use Rattle.line_reader.specs.Lines.{behind_line, is_too_long, line}
use Rattle.line_reader.specs.declared.line.Line.{Line}

-- a reader to which its source is lent at each call
pub record Lines : Type 0 where
  pub ahead : Ahead
  -- the line that was read last
  pub text : List ℕ

-- What was read is the first line of these bytes: its text, unless it is too long.
pub record HasRead (found : Line) (read bytes : List ℕ) : Type 0 where
  pub some : 0 < length bytes
  pub size : found.is_too_long ≡ is_too_long (line bytes)
  pub text : found.is_too_long ≡ false → read ≡ line bytes

-- The answer is the first line of the bytes that were unread, where they are told, and those behind it are unread now;
-- or there were none.
abbrev pub GivesLine : Option Line → List ℕ → ℕ → Option (List ℕ) → Option (List ℕ) → Type 0
GivesLine None text offset old new = IsAtEnd old × IsAtEnd new
GivesLine (Some found) text offset old new = (found.place ≡ offset) × (new ≡ option_map behind_line old) × IfSome old (λ bytes. HasRead found text bytes)
