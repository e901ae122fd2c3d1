-- What a call that writes does to the files, and what they stand for while it goes on and once it is done.
use Rattle.std.specs.Prelude.{◌≡◌, ◌≤◌, ◌<◌, ◌⊎◌, ◌^◌, ℕ, true, List, [], Option, Some, None}
use Rattle.std.specs.List.{All}
use Rattle.store_ends.specs.Files.{Files, Leaves, SameWhere, whole}
use Rattle.disk_index.specs.Names.{segment_name}
use Rattle.holdings.specs.MarkedParts.{docnos_of}
use Rattle.holdings.specs.Parts.{all_parts, sealed}
use Rattle.holdings.specs.declared.limits.Limits.{Limits}
use Rattle.repository.specs.Entries.{IsOnDisk}
use Rattle.repository.specs.Names.{manifest_name, prior_name}
use Rattle.repository.specs.Numbers.{is_among, next_behind}
use Rattle.repository.specs.Saved.{unsaved}
use Rattle.repository.specs.Stands.{Collection, Stands}
use Rattle.repository.specs.States.{IsBacked, IsStateIntact, ReadsAs, State, part_numbers}

-- the name is that of no file of these numbers
abbrev pub IsOther : (ℕ → Type 0) → List ℕ → Type 0
IsOther own name = (n : ℕ) → n < 2 ^ 64 → own n → (name ≡ segment_name n → ⊥) × (name ≡ prior_name n → ⊥)

-- and it isn't that of the manifest either
abbrev pub IsBeside : (ℕ → Type 0) → List ℕ → Type 0
IsBeside own name = (name ≡ manifest_name → ⊥) × IsOther own name

-- where files are told, none has this number
abbrev pub IsGone : ℕ → Option Files → Type 0
IsGone n None = Unit {0}
IsGone n (Some files) = (files (segment_name n) ≡ whole None) × (files (prior_name n) ≡ whole None)

abbrev pub AreGone : List ℕ → Option Files → Type 0
AreGone ns told = All (λ n. IsGone n told) ns

-- the files stand for one of two collections
abbrev pub IsEither : Limits → Collection → Collection → Option Files → Type 0
IsEither limits before now told = Stands limits told before ⊎ Stands limits told now

-- At each moment, within the call too: files other than the manifest and those of own numbers are as they were, and the files
-- stand for what they stood for, or for what the state is made into.
pub record Writes {S : Type 0} (files : S → Option Files) (since : S → ℕ → Files → Type 0) (own : ℕ → Type 0) (into : Collection → Collection) (s : State) (old new : S) : Type 0 where
  pub others : SameWhere (IsBeside own) (files old) (files new)
  pub others_stay : Leaves (since old) (since new) (SameWhere (IsBeside own) (files old))
  pub stops : (c d : Collection) → IsBacked (files old) s → Stands s.held.limits (files old) c → ReadsAs (files old) s d
      → Leaves (since old) (since new) (IsEither s.held.limits c (into d))

-- Once it is done: the state reads as what it is made into, the files stand for just that, and it is backed. Where the files of its
-- parts were read as they were put, those of its parts now are too.
pub record Wrote (into : Collection → Collection) (before now : Option Files) (s t : State) : Type 0 where
  pub reads : (d : Collection) → IsBacked before s → ReadsAs before s d → ReadsAs now t (into d)
  pub stands : (d : Collection) → IsBacked before s → ReadsAs before s d → Stands t.held.limits now (into d)
  pub backed : IsBacked before s → IsBacked now t
  pub intact : IsBacked before s → IsStateIntact before s → IsStateIntact now t

-- All that was held is in files that are listed, those of before among them; the new files have the next numbers, and each took
-- one. Of the priors and of an open merge nothing changes.
pub record IsSavedAs (s t : State) (left : List ℕ) : Type 0 where
  pub on_disk : All (λ m. IsOnDisk m.source) t.held.parts.closed
  pub none_filling : t.held.parts.filling ≡ []
  pub listed : (n : ℕ) → is_among n (part_numbers s.held.parts.closed) ≡ true → is_among n (part_numbers t.held.parts.closed) ≡ true
  pub docnos : docnos_of (all_parts t.held.parts) ≡ docnos_of (all_parts s.held.parts)
  pub limits : t.held.limits ≡ s.held.limits
  pub generation : t.held.generation ≡ s.held.generation
  pub next : s.next ≤ t.next
  pub in_turn : t.next ≡ next_behind s.next (unsaved (sealed s.held.parts).closed)
  pub stale : t.stale ≡ left
  pub priors : t.priors ≡ s.priors
  pub merge : t.merge ≡ s.merge
