-- Parts with their marks: what they read as together with the files, and what is known of them whatever the files are.
use Rattle.std.specs.Prelude.{◌≡◌, ◌≤◌, ℕ, Bool, List, Option, length, map, sum_by}
use Rattle.std.specs.List.{flat_map}
use Rattle.ri_base.specs.Collection.{name_count, token_count}
use Rattle.ri_base.specs.Documents.{Document}
use Rattle.ri_base.specs.declared.limits.TheConstants.{MAX_PART_DOCS, MAX_PART_NAMES}
use Rattle.store_ends.specs.Files.{Files}
use Rattle.disk_index.specs.Parts.{Source, InMemory, OnDisk, reads, size}
use Rattle.disk_index.specs.Snapshots.{Marked, unmarked}
use Rattle.holdings.specs.Marks.{marks_with}

-- it has a mark for each document
abbrev pub IsWhole : Marked → Type 0
IsWhole m = length m.marks ≡ size m.source

-- a part of documents in memory
abbrev pub filled : List Document → List Bool → Marked
filled docs marks = record { source = InMemory docs; marks = marks }

-- all documents of parts, the marked ones included
abbrev pub documents_of : Option Files → List Marked → List Document
documents_of told parts = flat_map (λ m. reads told m.source) parts

-- the docnos of a part's documents
abbrev pub docnos_in : Source → List (List ℕ)
docnos_in (InMemory docs) = map (λ d. d.docno) docs
docnos_in (OnDisk kept) = map (λ o. o.docno) kept.outlines

-- how many tokens they have together
abbrev pub tokens_in : Source → ℕ
tokens_in (InMemory docs) = token_count docs
tokens_in (OnDisk kept) = sum_by (λ o. o.tokens) kept.outlines

-- the docnos of the documents that aren't marked
abbrev pub docnos_of : List Marked → List (List ℕ)
docnos_of parts = flat_map (λ m. unmarked (docnos_in m.source) m.marks) parts

-- how many tokens all their documents have, the marked ones included
abbrev pub tokens_held : List Marked → ℕ
tokens_held parts = sum_by (λ m. tokens_in m.source) parts

-- a part once each of its documents with this docno is marked
abbrev pub marked_with : List ℕ → Marked → Marked
marked_with docno m = record { source = m.source; marks = marks_with docno (docnos_in m.source) m.marks }

-- documents that one segment can have
abbrev pub IsWritable : Source → Type 0
IsWritable (InMemory docs) = (length docs ≤ MAX_PART_DOCS) × (name_count docs ≤ MAX_PART_NAMES)
IsWritable (OnDisk kept) = Unit {0}
