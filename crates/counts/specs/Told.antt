-- Of which documents a sum was told.
use Rattle.std.specs.Prelude.{◌≡◌, ◌<◌, ◌/◌, ℕ, true, false, List, Option, get_or, All}
use Rattle.ri_base.specs.Expression.{EachWord, ExprTree}
use Rattle.store_ends.specs.Files.{Files}
use Rattle.extent_lists.specs.Presence.{may_with}
use Rattle.disk_index.specs.Cache.{Cached}
use Rattle.disk_index.specs.Parts.{IsReadableOf, size}
use Rattle.disk_index.specs.Presence.{may_have}
use Rattle.disk_index.specs.Snapshots.{Marked}

-- where the document is live, and an expression may occur in its range by the terms that the part may have there: the block of each of
-- the expression's terms can be read for it
abbrev pub IsLiveTold : Option Files → Cached → ExprTree → Marked → ℕ → Type 0
IsLiveTold told cached x m id = get_or m.marks id false ≡ false → may_with (may_have m.source (id / 64)) x ≡ true → EachWord (λ t. IsReadableOf told cached m.source t id) x

-- so of each document of a part
abbrev pub IsPartTold : Option Files → Cached → ExprTree → Marked → Type 0
IsPartTold told cached x m = (id : ℕ) → id < size m.source → IsLiveTold told cached x m id

-- and of each of several parts
abbrev pub ArePartsTold : Option Files → Cached → ExprTree → List Marked → Type 0
ArePartsTold told cached x parts = All (IsPartTold told cached x) parts
