-- The fields that all files share.
use Rattle.std.specs.Prelude.{ℕ, ◌+◌, Bool, true, false, List, [], ◌∷◌, length, take, drop, Ok, Err, nat_lt, nat_le, ◌&&◌, if◌then◌else◌}
use Rattle.std.specs.Cmp.Lexicographic.{slice_cmp}
use Rattle.std.specs.Int.{Width, byte_len, from_le_bytes, w32}
use Rattle.std.specs.Ordering.{match_ordering, nat_cmp}
use Rattle.ri_base.specs.Text.{is_docno, is_term, is_name}
use Rattle.ri_base.specs.declared.text.TheConstants.{DOCNO_BYTES, NAME_BYTES, TERM_BYTES}
use Rattle.ri_base.specs.Reading.{Reading, ◌>>=◌, kept, repeat}

abbrev pub byte : List ℕ → Reading ℕ
byte [] = Err 0
byte (b ∷ bytes) = Ok (b, bytes)

-- a number, its least byte first
abbrev pub number : Width → List ℕ → Reading ℕ
number w bytes = if nat_lt (length bytes) (byte_len w) then Err (length bytes) else Ok (from_le_bytes w (take (byte_len w) bytes), drop (byte_len w) bytes)

-- a number that keeps a rule
unfoldable pub ruled : Width → (ℕ → Bool) → List ℕ → Reading ℕ
ruled w rule bytes = do
  n ← number w bytes
  kept (rule n.0) n bytes

-- a number below `top`, from `low` on
abbrev pub number_between : ℕ → ℕ → List ℕ → Reading ℕ
number_between top low bytes = ruled w32 (λ n. nat_le low n && nat_lt n top) bytes

-- so many numbers below `top`, each above the one before it
abbrev pub rising_numbers : ℕ → ℕ → List ℕ → Reading (List ℕ)
rising_numbers top count bytes = repeat (number_between top) (λ _ n. n + 1) count 0 bytes

unfoldable pub ruled_byte : (ℕ → Bool) → List ℕ → Reading ℕ
ruled_byte rule bytes = do
  b ← byte bytes
  kept (rule b.0) b bytes

-- the first n bytes
abbrev pub front : ℕ → List ℕ → Reading (List ℕ)
front n bytes = if nat_lt (length bytes) n then Err (length bytes) else Ok (take n bytes, drop n bytes)

-- the first n bytes, which keep a rule
unfoldable pub ruled_front : ℕ → (List ℕ → Bool) → List ℕ → Reading (List ℕ)
ruled_front n rule bytes = do
  x ← front n bytes
  kept (rule x.0) x bytes

-- the byte before a text, which says how many bytes that has
unfoldable pub text_length : ℕ → List ℕ → Reading ℕ
text_length most bytes = do
  n ← byte bytes
  kept (nat_le 1 n.0 && nat_le n.0 most) n bytes

-- a text behind its length
unfoldable pub text : ℕ → (List ℕ → Bool) → List ℕ → Reading (List ℕ)
text most rule bytes = do
  n ← text_length most bytes
  ruled_front n.0 rule n.1

-- by their bytes, one stands before the other
abbrev pub is_before : List ℕ → List ℕ → Bool
is_before a b = match_ordering (slice_cmp nat_cmp a b) true false false

abbrev pub docno : List ℕ → Reading (List ℕ)
docno bytes = text DOCNO_BYTES is_docno bytes

-- a docno, a term or the name of a field, behind another
abbrev pub docno_behind : List ℕ → List ℕ → Reading (List ℕ)
docno_behind before bytes = text DOCNO_BYTES (λ x. is_docno x && is_before before x) bytes

abbrev pub term_behind : List ℕ → List ℕ → Reading (List ℕ)
term_behind before bytes = text TERM_BYTES (λ x. is_term x && is_before before x) bytes

abbrev pub name_behind : List ℕ → List ℕ → Reading (List ℕ)
name_behind before bytes = text NAME_BYTES (λ x. is_name x && is_before before x) bytes
