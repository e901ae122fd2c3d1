-- The header of a segment.
use Rattle.std.specs.Prelude.{ℕ, true, List, [], ◌∷◌, Result, Ok, nat_le, ◌==◌, ◌&&◌}
use Rattle.std.specs.Bool.{nat_eq}
use Rattle.std.specs.Cmp.Lexicographic.{pointwise}
use Rattle.std.specs.Int.{w32, w64}
use Rattle.ri_base.specs.declared.limits.TheConstants.{MAX_HELD_TOKENS, MAX_PART_DOCS, MAX_PART_NAMES}
use Rattle.ri_base.specs.Fields.{number, ruled, ruled_front}
use Rattle.ri_base.specs.Reading.{Reading, ◌>>=◌, whole}
use Rattle.seg_codec.specs.declared.header.Header.{Header}

-- indriseg
abbrev pub magic : List ℕ
magic = 105 ∷ 110 ∷ 100 ∷ 114 ∷ 105 ∷ 115 ∷ 101 ∷ 103 ∷ []

abbrev pub marked : List ℕ → Reading (List ℕ)
marked bytes = ruled_front 8 (λ x. pointwise nat_eq x magic) bytes

-- a segment of so many documents
unfoldable pub docs_count : ℕ → List ℕ → Reading ℕ
docs_count docs bytes = do
  m ← marked bytes
  v ← ruled w32 (λ n. n == 1) m.1
  ruled w32 (λ n. nat_le n MAX_PART_DOCS && n == docs) v.1

-- how many tokens, terms and names
unfoldable pub counts : List ℕ → Reading (ℕ × ℕ × ℕ)
counts bytes = do
  tokens ← ruled w64 (λ n. nat_le n MAX_HELD_TOKENS) bytes
  terms ← number w32 tokens.1
  names ← ruled w32 (λ n. nat_le n MAX_PART_NAMES) terms.1
  Ok ((tokens.0, terms.0, names.0), names.1)

-- where the dictionary stands, behind the documents at 64
unfoldable pub dictionary_place : List ℕ → Reading ℕ
dictionary_place bytes = do
  documents ← ruled w64 (λ n. n == 64) bytes
  ruled w64 (λ n. nat_le 64 n) documents.1

-- where the blocks stand, in a file of so many bytes
unfoldable pub blocks_place : ℕ → ℕ → List ℕ → Reading ℕ
blocks_place size dictionary bytes = do
  blocks ← ruled w64 (λ n. nat_le dictionary n) bytes
  end ← ruled w64 (λ n. nat_le blocks.0 n && n == size) blocks.1
  Ok (blocks.0, end.1)

unfoldable pub places : ℕ → List ℕ → Reading (ℕ × ℕ)
places size bytes = do
  d ← dictionary_place bytes
  b ← blocks_place size d.0 d.1
  Ok ((d.0, b.0), b.1)

unfoldable pub header_fields : ℕ → ℕ → List ℕ → Reading Header
header_fields docs size bytes = do
  n ← docs_count docs bytes
  c ← counts n.1
  p ← places size c.1
  Ok (record { docs = n.0; tokens = c.0.0; terms = c.0.1; names = c.0.2; documents_at = 64; dictionary_at = p.0.0; blocks_at = p.0.1; length = size }, p.1)

abbrev pub header : ℕ → ℕ → List ℕ → Result Header ℕ
header docs size bytes = whole (λ _. true) (λ h. h) (header_fields docs size bytes)
