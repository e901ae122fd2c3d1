-- The bytes that are written.
use Rattle.std.specs.Prelude.{ℕ, suc, ◌-◌, ◌*◌, List, [], ◌∷◌, ◌++◌, length, map, if◌then◌else◌}
use Rattle.std.specs.Int.{w16, w32, w64, to_le_bytes}
use Rattle.std.specs.List.{flat_map}
use Rattle.std.specs.Str.{bytes_eq}
use Rattle.ri_base.specs.Documents.{Field}
use Rattle.ri_base.specs.Spelling.{spelled_text}
use Rattle.seg_codec.specs.Documents.{names_in_order}
use Rattle.seg_codec.specs.Headers.{magic}
use Rattle.seg_codec.specs.declared.blocks.BlockEntry.{BlockEntry}
use Rattle.seg_codec.specs.declared.dictionary.BlockPlace.{BlockPlace}
use Rattle.seg_codec.specs.declared.dictionary.TermBlocks.{TermBlocks}
use Rattle.seg_codec.specs.declared.documents.Entry.{Entry}
use Rattle.seg_codec.specs.declared.documents.Row.{Row}
use Rattle.seg_codec.specs.declared.header.Header.{Header}

abbrev pub spelled_row : Row → List ℕ
spelled_row r = to_le_bytes w16 r.name ++ to_le_bytes w32 r.begin ++ to_le_bytes w32 r.end

-- the number of a name, its place among the names
abbrev pub number_of : List (List ℕ) → List ℕ → ℕ
number_of [] x = 0
number_of (n ∷ ns) x = if bytes_eq n x then 0 else suc (number_of ns x)

abbrev pub numbered : List (List ℕ) → Field → Row
numbered names f = record { name = number_of names f.name; begin = f.begin; end = f.end }

abbrev pub spelled_rows : List Row → List ℕ
spelled_rows rs = to_le_bytes w16 (length rs) ++ flat_map spelled_row rs

abbrev pub spelled_entry : List (List ℕ) → Entry → List ℕ
spelled_entry names e = spelled_text e.docno ++ (to_le_bytes w32 e.tokens ++ spelled_rows (map (numbered names) e.fields))

-- the documents part
abbrev pub documents_bytes : List Entry → List ℕ
documents_bytes es = flat_map spelled_text (names_in_order es) ++ flat_map (spelled_entry (names_in_order es)) es

abbrev pub spelled_place : BlockPlace → List ℕ
spelled_place b = to_le_bytes w32 b.range ++ to_le_bytes w64 b.place ++ to_le_bytes w32 b.length

abbrev pub spelled_term : TermBlocks → List ℕ
spelled_term x = spelled_text x.term ++ (to_le_bytes w32 (length x.blocks) ++ flat_map spelled_place x.blocks)

-- the dictionary
abbrev pub dictionary_bytes : List TermBlocks → List ℕ
dictionary_bytes xs = flat_map spelled_term xs

abbrev pub spelled_block_entry : ℕ → BlockEntry → List ℕ
spelled_block_entry range e = (e.id - 64 * range) ∷ to_le_bytes w32 (length e.positions) ++ flat_map (to_le_bytes w32) e.positions

-- a block
abbrev pub block_bytes : ℕ → List BlockEntry → List ℕ
block_bytes range es = length es ∷ flat_map (spelled_block_entry range) es

abbrev pub header_bytes : Header → List ℕ
header_bytes h =
    magic ++ to_le_bytes w32 1 ++ to_le_bytes w32 h.docs ++ to_le_bytes w64 h.tokens ++ to_le_bytes w32 h.terms ++ to_le_bytes w32 h.names
    ++ to_le_bytes w64 h.documents_at ++ to_le_bytes w64 h.dictionary_at ++ to_le_bytes w64 h.blocks_at ++ to_le_bytes w64 h.length
