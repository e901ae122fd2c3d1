-- Documents with ids one behind the other.
use Rattle.std.specs.Prelude.{ℕ, ◌-◌, List, drop, take}
use Rattle.ri_base.specs.Documents.{Document}

-- the documents with the ids from first on up to end, that one not among them
abbrev pub section : List Document → ℕ → ℕ → List Document
section docs first end = take (end - first) (drop first docs)
