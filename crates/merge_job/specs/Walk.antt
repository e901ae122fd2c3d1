-- What is left of the live documents of parts from a place on.
use Rattle.std.specs.Prelude.{◌≡◌, ℕ, zero, suc, List, [], ◌∷◌, ◌++◌, drop, map, sum_by}
use Rattle.std.specs.List.{Contains, flat_map}
use Rattle.ri_base.specs.declared.seg_fault.SegFault.{SegFault}
use Rattle.store_ends.specs.Files.{Files}
use Rattle.seg_codec.specs.Segment.{entry_of}
use Rattle.seg_codec.specs.declared.documents.Entry.{Entry}
use Rattle.disk_index.specs.Cache.{Cached}
use Rattle.disk_index.specs.Parts.{Source, InMemory, OnDisk, IsRangeFaultOf}
use Rattle.disk_index.specs.Snapshots.{Marked, unmarked}

-- the documents of a part without their tokens, which are the same whatever its file has
abbrev pub entries : Source → List Entry
entries (InMemory docs) = map entry_of docs
entries (OnDisk kept) = kept.outlines

-- of parts all that isn't marked, one part behind the other
abbrev pub all_of : {A : Type 0} → (Source → List A) → List Marked → List A
all_of f parts = flat_map (λ m. unmarked (f m.source) m.marks) parts

-- of one part what is left from an id on
abbrev pub rest_in : {A : Type 0} → (Source → List A) → Marked → ℕ → List A
rest_in f m i = unmarked (drop i (f m.source)) (drop i m.marks)

-- of parts what is left from an id of a part on
abbrev pub rest : {A : Type 0} → (Source → List A) → List Marked → ℕ → ℕ → List A
rest f [] p i = []
rest f (m ∷ ms) zero i = rest_in f m i ++ all_of f ms
rest f (m ∷ ms) (suc p) i = rest f ms p i

-- what was copied grew from xs to ys by what stands between two ids of a part
abbrev pub GrowsIn : {A : Type 0} → (Source → List A) → Marked → List A → ℕ → List A → ℕ → Type 0
GrowsIn f m xs i ys j = ys ++ rest_in f m j ≡ xs ++ rest_in f m i

-- the same of parts, between two places
abbrev pub Grows : {A : Type 0} → (Source → List A) → List Marked → List A → ℕ → ℕ → List A → ℕ → ℕ → Type 0
Grows f parts xs p i ys q j = ys ++ rest f parts q j ≡ xs ++ rest f parts p i

-- how many tokens these documents have
abbrev pub tokens_of : List Entry → ℕ
tokens_of es = sum_by (λ e. e.tokens) es

-- why documents of the part can't be put together: those of some range of 64 ids can't
abbrev pub IsFaultOf : Files → Cached → Source → SegFault → Type 0
IsFaultOf files cached source fault = (range : ℕ) × IsRangeFaultOf files cached source range fault

-- why documents of one of the parts can't be put together
abbrev pub IsFaultAmong : Files → Cached → List Marked → SegFault → Type 0
IsFaultAmong files cached parts fault = (m : Marked) × Contains parts m × IsFaultOf files cached m.source fault
