-- How documents are cut into parts.
use Rattle.std.specs.Prelude.{ℕ, ◌<◌, ◌≤◌, ◌≡◌, List, [], ◌∷◌, ◌++◌, length}
use Rattle.ri_base.specs.Collection.{name_count}
use Rattle.ri_base.specs.Documents.{Document}
use Rattle.ri_base.specs.declared.limits.TheConstants.{MAX_PART_DOCS, MAX_PART_NAMES}

-- a part of these documents can take one more
abbrev pub Takes : ℕ → List Document → Document → Type 0
Takes most docs d = (length docs < most) × (name_count (docs ++ d ∷ []) ≤ MAX_PART_NAMES)

-- a part has some documents, no more than there may be, and no more names of fields than there may be
abbrev pub IsPart : ℕ → List Document → Type 0
IsPart most docs = (1 ≤ length docs) × (length docs ≤ most) × (name_count docs ≤ MAX_PART_NAMES)

-- a part of these documents ends where none is left, or where it can't take the next
abbrev pub Ends : ℕ → List Document → List (List Document) → Type 0
Ends most docs [] = Unit {0}
Ends most docs ([] ∷ rest) = ⊥
Ends most docs ((d ∷ ds) ∷ rest) = Takes most docs d → ⊥

-- lists of documents are parts, each of which ends no earlier than it has to
abbrev pub AreCut : ℕ → List (List Document) → Type 0
AreCut most [] = Unit {0}
AreCut most (docs ∷ rest) = IsPart most docs × Ends most docs rest × AreCut most rest

-- documents that were copied, and the most that a part may have
pub record Copies : Type 0 where
  pub most : ℕ
  pub docs : List Document

-- the parts that are closed, and the one that is being filled, which is empty only where there is none before it
pub record AreCopies (most : ℕ) (parts : List (List Document)) (filling : List Document) : Type 0 where
  pub some : 1 ≤ most
  pub small : most ≤ MAX_PART_DOCS
  pub none : filling ≡ [] → parts ≡ []
  pub cut : 1 ≤ length filling → AreCut most (parts ++ filling ∷ [])
