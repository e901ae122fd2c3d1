-- Whether a term may stand in a range of documents of a part.
use Rattle.std.specs.Prelude.{◌≡◌, ◌<◌, ◌≤◌, ◌/◌, ◌==◌, ℕ, Bool, true, false, List, [], length, Option, Some, None, is_some}
use Rattle.std.specs.List.{list_any}
use Rattle.ri_base.specs.Collection.{document_at}
use Rattle.ri_base.specs.Documents.{Document}
use Rattle.ri_base.specs.Places.{places, postings_of}
use Rattle.disk_index.specs.Kept.{place_of}
use Rattle.disk_index.specs.Parts.{Source, InMemory, OnDisk}

-- in a part in memory some document of the range has the term; on disk the dictionary has a block of it for the range
abbrev pub may_have : Source → ℕ → List ℕ → Bool
may_have (InMemory docs) range term = list_any (λ p. p.id / 64 == range) (postings_of term docs)
may_have (OnDisk kept) range term = is_some (place_of kept.dictionary term range)

-- no document of the range, those with the ids from 64 * range on, 64 at most, has the term
abbrev pub IsNowhere : ℕ → List ℕ → List Document → Type 0
IsNowhere range term docs = (id : ℕ) → id / 64 ≡ range → id < length docs → places term (document_at docs id) ≡ []

-- the first number from this one on that passes a test; none where none of these does
abbrev pub IsNext : (ℕ → Bool) → ℕ → Option ℕ → Type 0
IsNext test from None = (n : ℕ) → from ≤ n → test n ≡ false
IsNext test from (Some first) = (from ≤ first) × (test first ≡ true) × ((n : ℕ) → from ≤ n → n < first → test n ≡ false)
