-- What a call leaves of a part of the collection that it reads, and what a fault's count says.
use Rattle.std.specs.Prelude.{◌≡◌, ◌≤◌, ℕ, ◌+◌, ◌-◌, ◌^◌, min, List}
use Rattle.ri_base.specs.Documents.{Document}

-- The count of faults rose from before to now. One that stands at its greatest value is taken as risen.
abbrev pub Rose : ℕ → ℕ → Type 0
Rose before now = min (before + 1) (2 ^ 64 - 1) ≤ now

-- The part reads as the same documents, is still sound where it was, is in its relation of quiet to what it was, and has
-- forgotten no fault. It may become sound: what it keeps of a file that was wrong may be gone.
pub record Keeps {S : Type 0} (documents : S → List Document) (faults : S → ℕ) (sound intact : S → Type 0) (quiet : S → S → Type 0) (old new : S) : Type 0 where
  pub documents_stay : documents new ≡ documents old
  pub no_fault_lost : faults old ≤ faults new
  pub sound_stays : sound old → sound new
  pub intact_stays : intact old → intact new
  pub stays_quiet : quiet old new
