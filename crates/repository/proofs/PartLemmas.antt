-- What is answered of a part that can be read.
use Rattle.std.proofs.Common.{◌≡◌, ℕ, Result, Ok, Err}
use Rattle.std.specs.Prelude.{IfErr, IfOk}
use Rattle.ri_base.specs.FieldAnswers.{AnswersPart}
use Rattle.ri_base.specs.Faults.{IsOutside}
use Rattle.ri_base.specs.declared.seg_fault.FileName.{FileName}
use Rattle.ri_base.specs.declared.seg_fault.PartName.{PartName}
use Rattle.ri_base.specs.declared.seg_fault.SegFault.{SegFault}
use Rattle.ri_base.specs.declared.seg_fault.SegFault.TheVariants.{Malformed, Missing, Store, Memory}

-- it is one value
pub one-read : {A : Type 0} (read : Result A ℕ) (x y : A) → read ≡ Ok x → read ≡ Ok y → x ≡ y
one-read read x y a b = cc

-- that is answered of it, where any is
pub answered : {A : Type 0} (r : Result A SegFault) (read : Result A ℕ) (file : FileName) (part : PartName) (end : ℕ) (x : A) → AnswersPart (λ v. v) r read file part end → read ≡ Ok x → IfOk r (λ v. v ≡ x)
answered (Ok v) read file part end x answer is = cc
answered (Err e) read file part end x answer is = tt

-- and the part isn't to blame
pub unbroken : {A : Type 0} (e : SegFault) (read : Result A ℕ) (file : FileName) (part : PartName) (end : ℕ) (x : A) → AnswersPart {X = A} (λ v. v) (Err e) read file part end → read ≡ Ok x → IsOutside e
unbroken (Malformed f p place) read file part end x answer is = (let broken = answer.3 in absurd cc)
unbroken (Missing f) read file part end x answer is = absurd answer
unbroken Store read file part end x answer is = absurd answer
unbroken Memory read file part end x answer is = tt

pub answered-outside : {A : Type 0} (r : Result A SegFault) (read : Result A ℕ) (file : FileName) (part : PartName) (end : ℕ) (x : A) → AnswersPart (λ v. v) r read file part end → read ≡ Ok x → IfErr r IsOutside
answered-outside (Ok v) read file part end x answer is = tt
answered-outside (Err e) read file part end x answer is = unbroken e read file part end x answer is
