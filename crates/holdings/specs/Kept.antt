-- What is kept of the places of live documents, and of the sums.
use Rattle.std.specs.Prelude.{◌≡◌, ◌≤◌, ◌↔◌, ℕ, zero, suc, true, List, [], ◌∷◌, Option, Some, None, length, map, set, slice_index_or}
use Rattle.std.specs.List.{All}
use Rattle.std.specs.Map.{lookup}
use Rattle.std.specs.Str.{bytes_eq}
use Rattle.ri_base.specs.declared.limits.TheConstants.{MAX_PART_DOCS}
use Rattle.disk_index.specs.Snapshots.{Marked, documents_held}
use Rattle.holdings.specs.Marks.{cells}
use Rattle.holdings.specs.Parts.{Parts, all_parts}
use Rattle.holdings.specs.MarkedParts.{IsWhole, IsWritable, docnos_in, docnos_of, tokens_held}
use Rattle.holdings.specs.declared.limits.Limits.{Limits}
use Rattle.holdings.specs.declared.spot.Spot.{Spot}

-- the docno at each place of a part, where it isn't marked
abbrev pub row : Marked → List (Option (List ℕ))
row m = cells (docnos_in m.source) m.marks

-- what stands at the place of an id in a part
abbrev pub cell : List (List (Option (List ℕ))) → ℕ → ℕ → Option (List ℕ)
cell grid part id = slice_index_or (slice_index_or grid part []) id None

-- a docno is found at a place exactly where it stands there
abbrev pub IsPlaced : (List ℕ → Option Spot) → (ℕ → ℕ → Option (List ℕ)) → Type 0
IsPlaced found stands = (q : List ℕ) (s : Spot) → (found q ≡ Some s) ↔ (stands s.part s.id ≡ Some q)

-- the places are those of the live documents, and each part has a mark for each document
pub record ArePlaced (places : List (List ℕ × Spot)) (parts : List Marked) : Type 0 where
  pub placed : IsPlaced (λ q. lookup (bytes_eq q) places) (cell (map row parts))
  pub counted : length places ≡ length (docnos_of parts)
  pub whole : All IsWhole parts

-- the same of parts that are held, each of which a segment can have
pub record AreKept (most : ℕ) (places : List (List ℕ × Spot)) (parts : List Marked) : Type 0 where
  pub small : most ≤ MAX_PART_DOCS
  pub placed : IsPlaced (λ q. lookup (bytes_eq q) places) (cell (map row parts))
  pub counted : length places ≡ length (docnos_of parts)
  pub whole : All IsWhole parts
  pub writable : All (λ m. IsWritable m.source) parts

-- the parts with the mark at one place
abbrev pub marked_at : List Marked → ℕ → ℕ → List Marked
marked_at [] part id = []
marked_at (m ∷ ms) zero id = record { source = m.source; marks = set m.marks id true } ∷ ms
marked_at (m ∷ ms) (suc part) id = m ∷ marked_at ms part id

-- the sums are those of the parts, and within the limits
pub record AreCounted (parts : Parts) (limits : Limits) (documents tokens : ℕ) : Type 0 where
  pub documents_are : documents ≡ documents_held (all_parts parts)
  pub tokens_are : tokens ≡ tokens_held (all_parts parts)
  pub documents_fit : documents ≤ limits.held_docs
  pub tokens_fit : tokens ≤ limits.held_tokens
  pub most : parts.most ≡ limits.part_docs
