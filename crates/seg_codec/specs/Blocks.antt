-- A block of a segment: the places of a term in the documents of a range of 64 ids.
use Rattle.std.specs.Prelude.{ℕ, ◌+◌, ◌*◌, Bool, true, List, length, map, slice_index_or, Result, Ok, nat_lt, nat_le, ◌&&◌}
use Rattle.std.specs.Int.{w32}
use Rattle.ri_base.specs.Fields.{rising_numbers, ruled, ruled_byte}
use Rattle.ri_base.specs.Reading.{Reading, ◌>>=◌, repeat, whole}
use Rattle.seg_codec.specs.declared.documents.Entry.{Entry}
use Rattle.seg_codec.specs.declared.blocks.BlockEntry.{BlockEntry}

-- how many tokens the document with this id has
abbrev pub tokens_of : List Entry → ℕ → ℕ
tokens_of docs id = slice_index_or (map (λ e. e.tokens) docs) id 0

-- the ids below 64 in the range that are those of documents, from `low` on
abbrev pub is_local : ℕ → ℕ → ℕ → ℕ → Bool
is_local docs range low i = nat_lt i 64 && nat_lt (64 * range + i) docs && nat_le low (64 * range + i)

unfoldable pub places : ℕ → List ℕ → Reading (List ℕ)
places tokens bytes = do
  n ← ruled w32 (λ n. nat_le 1 n) bytes
  rising_numbers tokens n.0 n.1

-- the id of a document
unfoldable pub document_id : ℕ → ℕ → ℕ → List ℕ → Reading ℕ
document_id docs range low bytes = do
  i ← ruled_byte (is_local docs range low) bytes
  Ok (64 * range + i.0, i.1)

unfoldable pub block_entry : List Entry → ℕ → ℕ → List ℕ → Reading BlockEntry
block_entry docs range low bytes = do
  i ← document_id (length docs) range low bytes
  ps ← places (tokens_of docs i.0) i.1
  Ok (record { id = i.0; positions = ps.0 }, ps.1)

unfoldable pub block_entries : List Entry → ℕ → List ℕ → Reading (List BlockEntry)
block_entries docs range bytes = do
  n ← ruled_byte (λ n. nat_le 1 n && nat_le n 64) bytes
  repeat (block_entry docs range) (λ _ e. e.id + 1) n.0 0 n.1

abbrev pub block : List Entry → ℕ → List ℕ → Result (List BlockEntry) ℕ
block docs range bytes = whole (λ _. true) (λ x. x) (block_entries docs range bytes)
