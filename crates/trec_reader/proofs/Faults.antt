-- A fault of the input, as a reader of documents answers it.
use Rattle.std.proofs.Common.{ℕ, ◌≡◌, List, Option, Err, refl, ap}
use Rattle.read_ahead.specs.Causes.{ReadRose as InputRose, StaysUnlessRead as InputStays}
use Rattle.read_ahead.specs.declared.fault.InputFault.{InputFault}
use Rattle.read_ahead.specs.declared.fault.InputFault.TheVariants as fault
use Rattle.trec_reader.specs.Read.{Entry}
use Rattle.trec_reader.specs.Refusal.{GivesBy, ReadRose, StaysUnlessRead, input_refusal}
use Rattle.trec_reader.specs.declared.document.RawDoc.{RawDoc}
use Rattle.trec_reader.specs.declared.refusal.TrecRefusal.{TrecRefusal}

pub fault_gives : (read : ℕ → List ℕ → Entry) (f : InputFault) (r : TrecRefusal) (offset : ℕ) (old new : Option (List ℕ)) → r ≡ input_refusal f → GivesBy read (Err r) offset old new
fault_gives read fault.Read r offset old new e = rw e tt
fault_gives read fault.Memory r offset old new e = rw e tt

pub fault_rose : {X : Type 0} (f : InputFault) (r : TrecRefusal) (before now : ℕ) → r ≡ input_refusal f → InputRose {X = X} (Err f) before now → ReadRose {X = Option RawDoc} (Err r) before now
fault_rose fault.Read r before now e rose = λ _. rose refl
fault_rose fault.Memory r before now e rose = λ same. absurd cc

pub fault_stays : {X : Type 0} (f : InputFault) (r : TrecRefusal) (before now : ℕ) → r ≡ input_refusal f → InputStays {X = X} (Err f) before now → StaysUnlessRead {X = Option RawDoc} (Err r) before now
fault_stays fault.Read r before now e stays = λ other. absurd (other (ap (λ x. Err x) e))
fault_stays fault.Memory r before now e stays = λ other. stays (λ same. cc)
