-- How many places a term has at most in one document of a range of 64 ids.
use Rattle.std.specs.Prelude.{◌≡◌, ◌≤◌, ◌⊎◌, ℕ, max, List, fold, length, map}
use Rattle.ri_base.specs.Documents.{Document}
use Rattle.ri_base.specs.Places.{places, places_at}
use Rattle.ri_base.specs.declared.places.Place.{Place}
use Rattle.seg_codec.specs.declared.blocks.BlockEntry.{BlockEntry}
use Rattle.disk_index.specs.Blocks.{of_range}

-- the greatest of these counts, 0 where there is none
abbrev pub greatest_of : {A : Type 0} → (A → ℕ) → List A → ℕ
greatest_of count xs = fold (λ a b. max a b) 0 (map count xs)

-- in one document of the range
abbrev pub most_places : List ℕ → ℕ → List Document → ℕ
most_places term range docs = greatest_of (λ d. length (places term d)) (of_range range docs)

-- in one of these entries
abbrev pub most_of_entries : List BlockEntry → ℕ
most_of_entries es = greatest_of (λ e. length e.positions) es

-- how many of these postings have one id at most: no id has more, and some id has so many
pub record IsMostOfOne (block : List Place) (most : ℕ) : Type 0 where
  pub each : (id : ℕ) → length (places_at id block) ≤ most
  pub reached : (most ≡ 0) ⊎ ((id : ℕ) × (most ≡ length (places_at id block)))
