-- Where the live documents of marked parts are.
use Rattle.std.specs.Prelude.{◌<◌, ℕ, List, [], Option, length, slice_index_or}
use Rattle.ri_base.specs.Collection.{document_at}
use Rattle.ri_base.specs.Documents.{Document}
use Rattle.store_ends.specs.Files.{Files}
use Rattle.disk_index.specs.Parts.{InMemory, reads, size}
use Rattle.disk_index.specs.Snapshots.{Marked}

abbrev pub no_part : Marked
no_part = record { source = InMemory []; marks = [] }

abbrev pub part_at : List Marked → ℕ → Marked
part_at parts number = slice_index_or parts number no_part

-- a part by its number, and an id of it
pub record IsPlaceIn (parts : List Marked) (place : ℕ × ℕ) : Type 0 where
  pub part : place.0 < length parts
  pub id : place.1 < size (part_at parts place.0).source

-- the document there, by these files
abbrev pub document_in : Option Files → List Marked → ℕ × ℕ → Document
document_in told parts place = document_at (reads told (part_at parts place.0).source) place.1
