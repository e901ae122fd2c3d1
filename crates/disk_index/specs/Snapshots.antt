-- Parts with their marks, and the live documents of a snapshot, which is a list of such parts.
use Rattle.std.specs.Prelude.{◌≡◌, ◌≤◌, ℕ, Bool, true, false, List, [], ◌∷◌, Option, length, sum_by, flat_map, All, Contains}
use Rattle.ri_base.specs.Collection.{token_count}
use Rattle.ri_base.specs.Documents.{Document}
use Rattle.ri_base.specs.declared.limits.TheConstants.{MAX_HELD_TOKENS}
use Rattle.store_ends.specs.Files.{Files}
use Rattle.disk_index.specs.Cache.{KeptBlock}
use Rattle.disk_index.specs.Parts.{IsFileOf, IsPartBacked, IsPartIntact, Source, reads, size}
use Rattle.disk_index.specs.declared.limits.TheConstants.{MAX_HELD_DOCS}

-- of a list those that aren't marked
abbrev pub unmarked : {A : Type 0} → List A → List Bool → List A
unmarked [] marks = []
unmarked (x ∷ xs) [] = []
unmarked (x ∷ xs) (true ∷ marks) = unmarked xs marks
unmarked (x ∷ xs) (false ∷ marks) = x ∷ unmarked xs marks

-- where the documents of a part are, and of each whether it is dead
pub record Marked : Type 0 where
  pub source : Source
  pub marks : List Bool

-- the live documents of a part, in the order of ids
abbrev pub live_in : Option Files → Marked → List Document
live_in told m = unmarked (reads told m.source) m.marks

-- the live documents of several parts, one part behind the other
abbrev pub live : Option Files → List Marked → List Document
live told parts = flat_map (live_in told) parts

-- how many documents several parts hold, the dead ones among them
abbrev pub documents_held : List Marked → ℕ
documents_held parts = sum_by (λ m. size m.source) parts

-- how many tokens these have
abbrev pub tokens_held : Option Files → List Marked → ℕ
tokens_held told parts = sum_by (λ m. token_count (reads told m.source)) parts

-- what the counts of a part with its marks are, whatever the files are
pub record AreCounted (source : Source) (marks : List Bool) (tokens live_tokens : ℕ) : Type 0 where
  pub whole : length marks ≡ size source
  pub all : (told : Option Files) → tokens ≡ token_count (reads told source)
  pub living : (told : Option Files) → live_tokens ≡ token_count (unmarked (reads told source) marks)

-- the parts are few and short enough for a snapshot
pub record IsSnapshot (parts : List Marked) : Type 0 where
  pub few : documents_held parts ≤ MAX_HELD_DOCS
  pub short : (told : Option Files) → tokens_held told parts ≤ MAX_HELD_TOKENS

-- each part is backed
abbrev pub AreBacked : Option Files → List Marked → Type 0
AreBacked told parts = All (λ m. IsPartBacked told m.source) parts

-- and the file of each is read as it was put
abbrev pub AreIntact : Option Files → List Marked → Type 0
AreIntact told parts = All (λ m. IsPartIntact told m.source) parts

-- a block of one of these parts
abbrev pub IsFileAmong : List Marked → KeptBlock → Type 0
IsFileAmong parts e = (m : Marked) × Contains parts m × IsFileOf m.source e
