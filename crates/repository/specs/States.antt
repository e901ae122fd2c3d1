-- What a repository holds, and what it reads as together with the files.
use Rattle.std.specs.Prelude.{◌≡◌, ◌≤◌, ℕ, Bool, List, [], ◌∷◌, ◌++◌, Option, length}
use Rattle.std.specs.List.{All, AllZip, flat_map}
use Rattle.store_ends.specs.Files.{Files}
use Rattle.manifest.specs.Files.{numbers_of}
use Rattle.manifest.specs.Fits.{FitsDocs, IsManifest}
use Rattle.manifest.specs.Listing.{prior_numbers}
use Rattle.manifest.specs.declared.manifest.Manifest.{Manifest}
use Rattle.manifest.specs.declared.manifest.PriorEntry.{PriorEntry}
use Rattle.disk_index.specs.Parts.{InMemory, IsPartBacked, IsPartIntact, OnDisk, Source, size}
use Rattle.disk_index.specs.Snapshots.{Marked, documents_held}
use Rattle.holdings.specs.Contents.{Contents}
use Rattle.holdings.specs.MarkedParts.{tokens_held}
use Rattle.holdings.specs.Parts.{all_parts, live}
use Rattle.merge_job.specs.Merge.{Merging}
use Rattle.repository.specs.Stands.{Collection, HasManifest, IsPriorListed, Prior}

-- What is held in memory, the number of the next file, the stale files and the priors, and the merge that is open. It is usable until
-- a change of its files fails.
pub record State : Type 0 where
  pub held : Contents
  pub next : ℕ
  pub stale : List ℕ
  pub priors : List PriorEntry
  pub merge : Option Merging
  pub usable : Bool

-- Together with the files it is this collection.
pub record ReadsAs (told : Option Files) (s : State) (c : Collection) : Type 0 where
  pub live_are : live told s.held.parts ≡ c.live
  pub documents_are : documents_held (all_parts s.held.parts) ≡ c.documents
  pub tokens_are : tokens_held (all_parts s.held.parts) ≡ c.tokens
  pub priors_are : AllZip (IsPriorListed told) s.priors c.priors

-- the numbers of the files of parts
abbrev pub numbers_in : Source → List ℕ
numbers_in (InMemory docs) = []
numbers_in (OnDisk kept) = kept.number ∷ []

abbrev pub part_numbers : List Marked → List ℕ
part_numbers parts = flat_map (λ m. numbers_in m.source) parts

-- the numbers of all files that its manifest lists
abbrev pub listed_numbers : State → List ℕ
listed_numbers s = part_numbers s.held.parts.closed ++ (s.stale ++ prior_numbers s.priors)

-- the numbers of those that it reads
abbrev pub kept_numbers : State → List ℕ
kept_numbers s = part_numbers s.held.parts.closed ++ prior_numbers s.priors

-- A part in memory has a document, and one on disk as many as a segment has that a manifest lists.
abbrev pub HasDocs : Source → Type 0
HasDocs (InMemory docs) = 1 ≤ length docs
HasDocs (OnDisk kept) = FitsDocs (size (OnDisk kept))

abbrev pub IsSized : Marked → Type 0
IsSized m = HasDocs m.source

-- What it holds can be listed: there are entries whose numbers are those of its parts on disk, and which make a manifest with the
-- number of its next file, its stale files and its priors.
pub record IsNumbered (s : State) : Type 0 where
  pub list : Manifest
  pub form : IsManifest list
  pub next_is : list.next ≡ s.next
  pub numbers_are : numbers_of list.segments ≡ part_numbers s.held.parts.closed
  pub stale_are : list.stale ≡ s.stale
  pub priors_are : list.priors ≡ s.priors
  pub sized : All IsSized s.held.parts.closed

-- The manifest is one of this state: it lists its parts on disk, its stale files and its priors. The segment of each part on disk was
-- put in its file, damage of which shows, and the file of each prior has its rows.
pub record IsBacked (told : Option Files) (s : State) : Type 0 where
  pub list : Manifest
  pub has : HasManifest told list
  pub next_is : list.next ≡ s.next
  pub numbers_are : numbers_of list.segments ≡ part_numbers s.held.parts.closed
  pub stale_are : list.stale ≡ s.stale
  pub priors_are : list.priors ≡ s.priors
  pub parts : All (λ m. IsPartBacked told m.source) s.held.parts.closed
  pub priors : (ps : List Prior) × AllZip (IsPriorListed told) s.priors ps

-- The segment of each part on disk was put in its file, which is read as it was put.
abbrev pub IsStateIntact : Option Files → State → Type 0
IsStateIntact told s = All (λ m. IsPartIntact told m.source) s.held.parts.closed
