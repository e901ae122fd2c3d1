-- What the files of a store stand for.
use Rattle.std.specs.Prelude.{◌≡◌, ◌≤◌, ◌⊎◌, ◌+◌, ◌==◌, ℕ, zero, suc, Bool, List, [], ◌∷◌, ◌++◌, Option, Some, length, map, sum_by}
use Rattle.std.specs.List.{AllZip, IsDistinct, list_any}
use Rattle.std.specs.Str.{bytes_eq}
use Rattle.ri_base.specs.Collection.{token_count}
use Rattle.ri_base.specs.Documents.{Document}
use Rattle.store_ends.specs.Files.{Files, whole}
use Rattle.manifest.specs.Fits.{IsManifest}
use Rattle.manifest.specs.PriorFits.{IsPrior}
use Rattle.manifest.specs.Priors.{PriorTable, prior_text}
use Rattle.manifest.specs.Spelling.{manifest_text}
use Rattle.manifest.specs.declared.manifest.Manifest.{Manifest}
use Rattle.manifest.specs.declared.manifest.PriorEntry.{PriorEntry}
use Rattle.manifest.specs.declared.manifest.SegEntry.{SegEntry}
use Rattle.disk_index.specs.Reads.{HasSegment}
use Rattle.disk_index.specs.Snapshots.{unmarked}
use Rattle.holdings.specs.declared.limits.Limits.{Limits}
use Rattle.repository.specs.Names.{manifest_name, prior_name}

-- ---- a collection

-- a prior with its name
pub record Prior : Type 0 where
  pub name : List ℕ
  pub table : PriorTable

-- The live documents in the order of their additions, how many documents and tokens are held, those of deleted documents included,
-- and the priors.
pub record Collection : Type 0 where
  pub live : List Document
  pub documents : ℕ
  pub tokens : ℕ
  pub priors : List Prior

abbrev pub empty_collection : Collection
empty_collection = record { live = []; documents = 0; tokens = 0; priors = [] }

-- ---- what a manifest lists

-- of so many documents with the ids from id on, whether each is among these
abbrev pub marks_from : ℕ → ℕ → List ℕ → List Bool
marks_from id zero ids = []
marks_from id (suc n) ids = list_any (λ m. m == id) ids ∷ marks_from (id + 1) n ids

-- the segment of these documents, which are as many as the entry says, was put in the file of this entry, and damage of it shows
pub record IsListed (told : Option Files) (e : SegEntry) (docs : List Document) : Type 0 where
  pub has : HasSegment told e.number docs
  pub count : length docs ≡ e.docs

-- the documents of segments without those that their entries mark, one segment behind the other
abbrev pub live_listed : List SegEntry → List (List Document) → List Document
live_listed [] segments = []
live_listed (e ∷ es) [] = []
live_listed (e ∷ es) (docs ∷ segments) = unmarked docs (marks_from 0 (length docs) e.marks) ++ live_listed es segments

-- segments with their entries hold the documents of a collection, which is within the limits
pub record AreHeld (limits : Limits) (es : List SegEntry) (segments : List (List Document)) (c : Collection) : Type 0 where
  pub live_are : c.live ≡ live_listed es segments
  pub distinct : IsDistinct bytes_eq (map (λ (d : Document). d.docno) c.live)
  pub documents_are : c.documents ≡ sum_by (λ docs. length docs) segments
  pub tokens_are : c.tokens ≡ sum_by token_count segments
  pub documents_fit : c.documents ≤ limits.held_docs
  pub tokens_fit : c.tokens ≤ limits.held_tokens

-- The rows of this prior were put in the file of this entry, and they are read there as they were put.
pub record IsPriorListed (told : Option Files) (e : PriorEntry) (p : Prior) : Type 0 where
  pub files : Files
  pub is_told : told ≡ Some files
  pub name : p.name ≡ e.name
  pub file : files (prior_name e.number) ≡ whole (Some (prior_text p.table))
  pub form : IsPrior p.table

-- The rows of this prior are read in the file of this entry, whatever was put there.
pub record IsPriorRead (told : Option Files) (e : PriorEntry) (p : Prior) : Type 0 where
  pub files : Files
  pub is_told : told ≡ Some files
  pub name : p.name ≡ e.name
  pub file : (files (prior_name e.number)).read ≡ Some (prior_text p.table)
  pub form : IsPrior p.table

-- ---- files that stand for a collection

-- The files are told, and this manifest was put there. It is read as it was put.
pub record HasManifest (told : Option Files) (list : Manifest) : Type 0 where
  pub files : Files
  pub is_told : told ≡ Some files
  pub file : files manifest_name ≡ whole (Some (manifest_text list))
  pub form : IsManifest list

-- The files are told, and this manifest is read there, whatever was put.
pub record IsManifestRead (told : Option Files) (list : Manifest) : Type 0 where
  pub files : Files
  pub is_told : told ≡ Some files
  pub file : (files manifest_name).read ≡ Some (manifest_text list)
  pub form : IsManifest list

-- The files are told, and there is a manifest. The segments and the priors of this collection were put in the files that it lists.
-- These are read as they were put, but for damage of the blocks of segments, which shows. Other files don't matter.
pub record Stands (limits : Limits) (told : Option Files) (c : Collection) : Type 0 where
  pub list : Manifest
  pub has : HasManifest told list
  pub segments : List (List Document)
  pub listed : AllZip (IsListed told) list.segments segments
  pub held : AreHeld limits list.segments segments c
  pub priors : AllZip (IsPriorListed told) list.priors c.priors

-- the manifest of a repository in which nothing is
abbrev pub empty_manifest : Manifest
empty_manifest = record { version = 1; next = 1; segments = []; stale = []; priors = [] }

-- the files are as before, or stand for a collection in which nothing is
abbrev pub IsStarted : Limits → Option Files → Option Files → Type 0
IsStarted limits before now = (now ≡ before) ⊎ Stands limits now empty_collection
