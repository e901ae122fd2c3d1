-- The parts of a collection, the last of them being filled.
use Rattle.std.specs.Prelude.{ℕ, zero, suc, Bool, false, not, ◌&&◌, List, [], ◌∷◌, ◌++◌, Option, length, map, nat_le, nat_lt, if◌then◌else◌}
use Rattle.std.specs.List.{filter}
use Rattle.std.specs.Set.{is_member}
use Rattle.std.specs.Str.{bytes_eq}
use Rattle.ri_base.specs.Collection.{name_count}
use Rattle.ri_base.specs.Documents.{Document}
use Rattle.ri_base.specs.declared.limits.TheConstants.{MAX_PART_NAMES}
use Rattle.store_ends.specs.Files.{Files}
use Rattle.disk_index.specs.Parts.{InMemory, Source}
use Rattle.disk_index.specs.Snapshots as snapshots
use Rattle.disk_index.specs.Snapshots.{Marked}
use Rattle.memory_index.specs.Kept.{Index}
use Rattle.holdings.specs.Marks.{marks_with}
use Rattle.holdings.specs.MarkedParts.{docnos_in, docnos_of, filled, marked_with}

-- the parts that are closed, and the documents of the one that is being filled, with their marks; `most` is how many of these
-- there may be
pub record Parts : Type 0 where
  pub most : ℕ
  pub closed : List Marked
  pub filling : List Document
  pub marks : List Bool

-- those of a list of closed parts, and of the index that is being filled with its marks
abbrev pub parts_of : List Marked → Index → List Bool → Parts
parts_of closed filling marks = record { most = filling.most; closed = closed; filling = filling.documents; marks = marks }

-- all parts in their order, the one that is being filled last
abbrev pub all_parts : Parts → List Marked
all_parts p = p.closed ++ filled p.filling p.marks ∷ []

-- the live documents
abbrev pub live : Option Files → Parts → List Document
live told p = snapshots.live told (all_parts p)

-- a live document has this docno
abbrev pub is_live : Parts → List ℕ → Bool
is_live p docno = is_member bytes_eq (docnos_of (all_parts p)) docno

-- documents without those of this docno
abbrev pub without : List ℕ → List Document → List Document
without docno docs = filter (λ d. not (bytes_eq docno d.docno)) docs

-- the part that is being filled is closed, where it has documents
abbrev pub closed_by : Parts → List Document → Parts
closed_by p [] = p
closed_by p (d ∷ docs) = record { most = p.most; closed = all_parts p; filling = []; marks = [] }

abbrev pub sealed : Parts → Parts
sealed p = closed_by p p.filling

-- the part that is being filled has room for this document: for one document more, and for the names of its fields
abbrev pub has_room : Parts → Document → Bool
has_room p d = nat_lt (length p.filling) p.most && nat_le (name_count (p.filling ++ d ∷ [])) MAX_PART_NAMES

-- where it has none, it is closed first
abbrev pub with_room : Parts → Document → Parts
with_room p d = if has_room p d then p else sealed p

-- one document more in the part that is being filled
abbrev pub appended : Parts → Document → Parts
appended p d = record { most = p.most; closed = p.closed; filling = p.filling ++ d ∷ []; marks = p.marks ++ false ∷ [] }

-- a document behind the others, where need be in a part of its own
abbrev pub with_document : Parts → Document → Parts
with_document p d = appended (with_room p d) d

-- each document with this docno is marked
abbrev pub without_docno : Parts → List ℕ → Parts
without_docno p docno = record {
  most = p.most;
  closed = map (marked_with docno) p.closed;
  filling = p.filling;
  marks = marks_with docno (docnos_in (InMemory p.filling)) p.marks;
}

-- parts of which one has its documents elsewhere; its marks stay
abbrev pub with_source : List Marked → ℕ → Source → List Marked
with_source [] number source = []
with_source (m ∷ ms) zero source = record { source = source; marks = m.marks } ∷ ms
with_source (m ∷ ms) (suc number) source = m ∷ with_source ms number source

-- a closed part has its documents elsewhere
abbrev pub moved : Parts → ℕ → Source → Parts
moved p number source = record { most = p.most; closed = with_source p.closed number source; filling = p.filling; marks = p.marks }
