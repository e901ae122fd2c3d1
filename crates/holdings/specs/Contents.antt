-- What is held, within its limits, and what becomes of a document.
use Rattle.std.specs.Prelude.{◌≡◌, ◌⊎◌, ◌||◌, ◌+◌, ◌-◌, ◌^◌, ℕ, Bool, List, [], Result, Ok, Err, length, min, nat_lt, if◌then◌else◌}
use Rattle.ri_base.specs.Documents.{Document}
use Rattle.disk_index.specs.Parts.{Source}
use Rattle.disk_index.specs.Snapshots.{Marked, documents_held}
use Rattle.holdings.specs.Parts.{Parts, all_parts, is_live, moved, sealed, with_document, without_docno}
use Rattle.holdings.specs.MarkedParts.{tokens_held}
use Rattle.holdings.specs.declared.limits.Limits.{Limits}
use Rattle.holdings.specs.declared.refusals.AddRefusal.{AddRefusal}
use Rattle.holdings.specs.declared.refusals.AddRefusal.TheVariants.{Repeated, CollectionFull, Memory}

-- parts within limits; the generation counts what was added and deleted
pub record Contents : Type 0 where
  pub parts : Parts
  pub limits : Limits
  pub generation : ℕ

-- closed parts are held, and none is being filled
abbrev pub closed_held : Limits → List Marked → Contents
closed_held limits parts = record { parts = record { most = limits.part_docs; closed = parts; filling = []; marks = [] }; limits = limits; generation = 0 }

-- nothing is held
abbrev pub none_held : Limits → Contents
none_held limits = closed_held limits []

-- with this document more would be held than the limits allow
abbrev pub is_full : Contents → Document → Bool
is_full c d =
    nat_lt c.limits.held_docs (documents_held (all_parts c.parts) + 1) || nat_lt c.limits.held_tokens (tokens_held (all_parts c.parts) + length d.tokens)

-- what becomes of a document
abbrev pub answer : Contents → Document → Result (Unit {0}) AddRefusal
answer c d =
    if is_live c.parts d.docno then Err (Repeated d.docno)
    else if is_full c d then Err (CollectionFull d.docno)
    else Ok tt

-- a call answers this, or want of memory
abbrev pub Answers : Result (Unit {0}) AddRefusal → Result (Unit {0}) AddRefusal → Type 0
Answers result expected = (result ≡ Err Memory) ⊎ (result ≡ expected)

-- the next generation; the greatest number of 64 bits stays
abbrev pub next_generation : ℕ → ℕ
next_generation g = min (g + 1) (2 ^ 64 - 1)

-- a document was added behind the others
abbrev pub added : Contents → Document → Contents
added c d = record { parts = with_document c.parts d; limits = c.limits; generation = next_generation c.generation }

-- the documents with a docno were deleted
abbrev pub deleted : Contents → List ℕ → Contents
deleted c docno = record { parts = without_docno c.parts docno; limits = c.limits; generation = next_generation c.generation }

-- the part that is being filled was closed
abbrev pub all_closed : Contents → Contents
all_closed c = record { parts = sealed c.parts; limits = c.limits; generation = c.generation }

-- a closed part has its documents elsewhere, as those of one in memory are put into a file
abbrev pub part_moved : Contents → ℕ → Source → Contents
part_moved c number source = record { parts = moved c.parts number source; limits = c.limits; generation = c.generation }

-- these closed parts are held in place of the others, and none is being filled
abbrev pub with_parts : Contents → List Marked → Contents
with_parts c parts = record { parts = record { most = c.limits.part_docs; closed = parts; filling = []; marks = [] }; limits = c.limits; generation = c.generation }
