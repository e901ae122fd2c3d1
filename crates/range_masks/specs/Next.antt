-- Documents that are passed over, range by range.
use Rattle.std.specs.Prelude.{◌≡◌, ◌≤◌, ◌<◌, ◌*◌, ℕ, Bool, false, List, Option, Some, None, IfSome, min}
use Rattle.ri_base.specs.Collection.{document_at}
use Rattle.ri_base.specs.Documents.{Document}

-- No document from a range of 64 ids on, up to the range that was found, passes the test; where none was found, no later one does.
pub record IsPassed (test : Document → Bool) (docs : List Document) (from : ℕ) (found : Option ℕ) : Type 0 where
  pub each : (id : ℕ) → 64 * from ≤ id → IfSome found (λ next. id < 64 * next) → test (document_at docs id) ≡ false

-- the one that comes first
abbrev pub earlier : Option ℕ → Option ℕ → Option ℕ
earlier None b = b
earlier (Some a) None = Some a
earlier (Some a) (Some b) = Some (min a b)
