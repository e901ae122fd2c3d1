-- Sums over the live documents of a part, as far as it is gone over.
use Rattle.std.specs.Prelude.{ℕ, false, if◌then◌else◌, Option, get_or, sum_by, take}
use Rattle.ri_base.specs.Collection.{document_at}
use Rattle.ri_base.specs.Documents.{Document}
use Rattle.store_ends.specs.Files.{Files}
use Rattle.disk_index.specs.Parts.{reads}
use Rattle.disk_index.specs.Snapshots.{Marked, unmarked}

-- the count of a document, where it is live
abbrev pub living : (Document → ℕ) → Option Files → Marked → ℕ → ℕ
living f told m id = if get_or m.marks id false then 0 else f (document_at (reads told m.source) id)

-- the sum over the live ones among the first documents
abbrev pub sum_first : (Document → ℕ) → Option Files → Marked → ℕ → ℕ
sum_first f told m n = sum_by f (unmarked (take n (reads told m.source)) m.marks)
