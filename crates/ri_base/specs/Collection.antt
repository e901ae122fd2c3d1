-- A collection as contracts see it: the list of its documents, whose ids are their places in the list.
use Rattle.std.specs.Prelude.{ℕ, List, [], ◌∷◌, ◌++◌, length, map, sum_by, slice_get, unwrap_or}
use Rattle.std.specs.Set.{distinct_count}
use Rattle.std.specs.Str.{bytes_eq}
use Rattle.ri_base.specs.Documents.{Document, Field}

abbrev pub empty_document : Document
empty_document = record { docno = []; tokens = []; fields = [] }

-- the document with this id
abbrev pub document_at : List Document → ℕ → Document
document_at docs id = unwrap_or (slice_get docs id) empty_document

-- how many tokens the documents have together
abbrev pub token_count : List Document → ℕ
token_count docs = sum_by (λ d. length d.tokens) docs

-- the names of fields, one for each field
abbrev pub names_of : List Field → List (List ℕ)
names_of fields = map (λ f. f.name) fields

-- the names of the fields of all documents
abbrev pub field_names : List Document → List (List ℕ)
field_names [] = []
field_names (d ∷ docs) = names_of d.fields ++ field_names docs

-- how many names the fields of the documents have, each name counted once
abbrev pub name_count : List Document → ℕ
name_count docs = distinct_count bytes_eq (field_names docs)
