-- Parts that were in memory alone, once their documents are in files.
use Rattle.std.specs.Prelude.{◌≡◌, ◌+◌, ◌≤◌, ◌<◌, ◌^◌, ℕ, true, false, List, [], ◌∷◌, ◌++◌, Option, Some, None, length}
use Rattle.std.specs.List.{All, AllZip}
use Rattle.store_ends.specs.Files.{Files, whole}
use Rattle.manifest.specs.Listing.{AreNumbered}
use Rattle.seg_codec.specs.Part.{IsPart}
use Rattle.seg_codec.specs.Segment.{segment}
use Rattle.disk_index.specs.Kept.{kept_of}
use Rattle.disk_index.specs.Names.{segment_name}
use Rattle.disk_index.specs.Parts.{InMemory, OnDisk, Source}
use Rattle.disk_index.specs.Snapshots.{Marked}
use Rattle.holdings.specs.Contents.{Contents, all_closed}
use Rattle.holdings.specs.MarkedParts.{docnos_of}
use Rattle.holdings.specs.Parts.{all_parts}
use Rattle.repository.specs.Entries.{IsOnDisk}
use Rattle.repository.specs.Numbers.{Taken, is_among, next_behind}
use Rattle.repository.specs.States.{IsSized, part_numbers}

-- where files are told, these bytes were put in the one of this name, and are read there
abbrev pub Holds : List ℕ → List ℕ → Option Files → Type 0
Holds name bytes None = Unit {0}
Holds name bytes (Some files) = files name ≡ whole (Some bytes)

-- What is on disk stays. The documents of a part in memory stay there, or are in the file of a number that is taken.
abbrev pub SavedSource : Option Files → List ℕ → Source → Source → Type 0
SavedSource told taken (InMemory docs) (InMemory same) = same ≡ docs
SavedSource told taken (InMemory docs) (OnDisk kept) =
    (kept ≡ kept_of kept.number docs) × (IsPart docs × ((kept.number < 2 ^ 64) × ((is_among kept.number taken ≡ true) × (Holds (segment_name kept.number) (segment docs) told × (length (segment docs) < 2 ^ 64)))))
SavedSource told taken (OnDisk kept) (InMemory docs) = ⊥
SavedSource told taken (OnDisk kept) (OnDisk same) = same ≡ kept

abbrev pub IsSaved : Option Files → List ℕ → Marked → Marked → Type 0
IsSaved told taken p q = (q.marks ≡ p.marks) × SavedSource told taken p.source q.source

-- no file has this number
abbrev pub IsUnlisted : List ℕ → ℕ → Type 0
IsUnlisted taken n = is_among n taken ≡ false

-- numbers that are distinct, below the next one, and taken
abbrev pub AreThere : Taken → List ℕ → Type 0
AreThere t ns = AreNumbered t.next ns × ((n : ℕ) → is_among n ns ≡ true → is_among n t.numbers ≡ true)

-- other closed parts, and all else as it was
abbrev pub with_closed : Contents → List Marked → Contents
with_closed c closed =
    record { parts = record { most = c.parts.most; closed = closed; filling = c.parts.filling; marks = c.parts.marks }; limits = c.limits; generation = c.generation }

-- how many of these parts are in memory alone
abbrev pub unsaved_in : Source → ℕ
unsaved_in (InMemory docs) = 1
unsaved_in (OnDisk kept) = 0

abbrev pub unsaved : List Marked → ℕ
unsaved [] = 0
unsaved (m ∷ ms) = unsaved_in m.source + unsaved ms

-- Some parts were saved. Each took one number: once all are saved the next one is the same as it would have been before.
pub record Saves (told : Option Files) (before now : Taken) (h k : Contents) : Type 0 where
  pub parts : AllZip (IsSaved told now.numbers) h.parts.closed k.parts.closed
  pub rest : k ≡ with_closed h k.parts.closed
  pub taken : (n : ℕ) → is_among n before.numbers ≡ true → is_among n now.numbers ≡ true
  pub next : before.next ≤ now.next
  pub in_turn : next_behind now.next (unsaved k.parts.closed) ≡ next_behind before.next (unsaved h.parts.closed)
  pub there : (others : List ℕ) → AreThere before (part_numbers h.parts.closed ++ others) → AreThere now (part_numbers k.parts.closed ++ others)

-- All parts were saved, the one that was being filled among them; beside their files there are others of these numbers.
pub record AllSaved (told : Option Files) (others : List ℕ) (next after : ℕ) (h k : Contents) : Type 0 where
  pub taken : List ℕ
  pub parts : AllZip (IsSaved told taken) (all_closed h).parts.closed k.parts.closed
  pub on_disk : All (λ m. IsOnDisk m.source) k.parts.closed
  pub rest : k ≡ with_closed (all_closed h) k.parts.closed
  pub rises : next ≤ after
  -- each new file took one number
  pub in_turn : after ≡ next_behind next (unsaved (all_closed h).parts.closed)
  pub fits : after < 2 ^ 64
  pub docnos : docnos_of (all_parts k.parts) ≡ docnos_of (all_parts h.parts)
  pub sized : All IsSized h.parts.closed → All IsSized k.parts.closed
  pub numbered : AreNumbered after (part_numbers k.parts.closed ++ others)
