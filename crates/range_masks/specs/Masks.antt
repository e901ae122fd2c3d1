-- Documents of a range of 64 ids as a number of 64 bits, and the postings of such a range.
use Rattle.std.specs.Prelude.{◌≡◌, ◌<◌, ℕ, ◌+◌, ◌*◌, ◌/◌, Bool, List, cond}
use Rattle.std.specs.Int.{bit_at}
use Rattle.std.specs.List.{All}
use Rattle.std.specs.List.Sorted.{IsNonDecreasingBy}
use Rattle.ri_base.specs.Collection.{document_at}
use Rattle.ri_base.specs.Documents.{Document}
use Rattle.ri_base.specs.Expression.{ExprTree}
use Rattle.ri_base.specs.Places.{places_at}
use Rattle.ri_base.specs.declared.places.Place.{Place}
use Rattle.extent_lists.specs.Extents.{Ext}

-- Bit i says whether the document with the id 64 * range + i passes the test. Past the last document stands an empty one.
pub record IsMask (test : Document → Bool) (range : ℕ) (docs : List Document) (mask : ℕ) : Type 0 where
  pub bits : (i : ℕ) → i < 64 → bit_at mask i ≡ cond (test (document_at docs (64 * range + i))) 1 0

-- a document of the range whose bit isn't set has no extent of the expression
abbrev pub HasEachDocument : ExprTree → ℕ → List Document → ℕ → Type 0
HasEachDocument x range docs mask = (i b e : ℕ) → i < 64 → bit_at mask i ≡ 0 → Ext x (document_at docs (64 * range + i)) b e → ⊥

-- of a list of postings those in documents of the range, by rising id: none of others, and each place of each id of the range
pub record IsBlock (range : ℕ) (all block : List Place) : Type 0 where
  pub inside : All (λ p. p.id / 64 ≡ range) block
  pub rising : IsNonDecreasingBy (λ p. p.id) block
  pub whole : (i : ℕ) → i < 64 → places_at (64 * range + i) block ≡ places_at (64 * range + i) all
