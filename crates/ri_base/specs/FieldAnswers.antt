-- What a call answers of a reading. Want of memory may be answered at any bytes.
use Rattle.std.specs.Prelude.{ℕ, ◌≡◌, ◌-◌, Result, Ok, Err}
use Rattle.ri_base.specs.declared.seg_fault.FileName.{FileName}
use Rattle.ri_base.specs.declared.seg_fault.PartName.{PartName}
use Rattle.ri_base.specs.declared.seg_fault.SegFault.{SegFault}
use Rattle.ri_base.specs.declared.seg_fault.SegFault.TheVariants as faults
use Rattle.ri_base.specs.declared.broken.Broken.{Broken}
use Rattle.ri_base.specs.declared.broken.Broken.TheVariants.{At, Memory}

abbrev pub Fails : {A : Type 0} → Broken → Result A ℕ → Type 0
Fails (At left) read = read ≡ Err left
Fails Memory read = Unit {0}

-- the answer, seen by view, is the reading's
abbrev pub Gives : {X A : Type 0} → (X → A) → Result X Broken → Result A ℕ → Type 0
Gives view (Ok x) read = read ≡ Ok (view x)
Gives view (Err e) read = Fails e read

-- The answer of a call that reads a part of a file, which ends at this place of it. A reading tells by its end where the
-- first bad field begins. Nothing is missing, and no store fails.
abbrev pub AnswersPart : {X A : Type 0} → (X → A) → Result X SegFault → Result A ℕ → FileName → PartName → ℕ → Type 0
AnswersPart view (Ok x) read file part end = read ≡ Ok (view x)
AnswersPart view (Err (faults.Malformed f p place)) read file part end = (f ≡ file) × (p ≡ part) × (left : ℕ) × (read ≡ Err left) × (place ≡ end - left)
AnswersPart view (Err (faults.Missing f)) read file part end = ⊥
AnswersPart view (Err faults.Store) read file part end = ⊥
AnswersPart view (Err faults.Memory) read file part end = Unit {0}

-- the fault of a part that can't be read, which ends at this place of its file
abbrev pub IsFault : Broken → SegFault → FileName → PartName → ℕ → Type 0
IsFault (At left) fault file part end = fault ≡ faults.Malformed file part (end - left)
IsFault Memory fault file part end = fault ≡ faults.Memory

-- the answer of a call by what the fields of a part were read as: the same value, or the fault of the part
abbrev pub IsAnswer : {X : Type 0} → Result X Broken → Result X SegFault → FileName → PartName → ℕ → Type 0
IsAnswer (Ok x) answer file part end = answer ≡ Ok x
IsAnswer (Err broken) answer file part end = (fault : SegFault) × (answer ≡ Err fault) × IsFault broken fault file part end
