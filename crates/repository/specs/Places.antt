-- Where a document stands in the file of its segment, by the form of such a file.
use Rattle.std.specs.Prelude.{ℕ, ◌+◌, ◌*◌, List, ◌++◌, length, take}
use Rattle.std.specs.List.{flat_map}
use Rattle.ri_base.specs.Spelling.{spelled_text}
use Rattle.seg_codec.specs.Documents.{names_in_order}
use Rattle.seg_codec.specs.Spelling.{spelled_entry}
use Rattle.seg_codec.specs.declared.documents.Entry.{Entry}

-- behind the header, the names of fields and the documents before it
abbrev pub document_place : List Entry → ℕ → ℕ
document_place es id = 64 + length (flat_map spelled_text (names_in_order es) ++ flat_map (spelled_entry (names_in_order es)) (take id es))

-- how many bytes a document has there: the docno behind its length, two numbers, and its fields
abbrev pub bytes_of : Entry → ℕ
bytes_of e = 7 + length e.docno + 10 * length e.fields
