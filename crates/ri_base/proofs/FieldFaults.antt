-- what the fault of a part answers
use Rattle.std.proofs.Common.{◌≡◌, ℕ, Result, Ok, Err, refl, sym, subst}
use Rattle.std.specs.Prelude.{IfOk}
use Rattle.ri_base.specs.declared.seg_fault.FileName.{FileName}
use Rattle.ri_base.specs.declared.seg_fault.PartName.{PartName}
use Rattle.ri_base.specs.declared.seg_fault.SegFault.{SegFault}
use Rattle.ri_base.specs.FieldAnswers.{AnswersPart, Fails, Gives, IsAnswer, IsFault}
use Rattle.ri_base.specs.declared.broken.Broken.{Broken}
use Rattle.ri_base.specs.declared.broken.Broken.TheVariants.{At, Memory}

pub fault_answers : {X A : Type 0} (view : X → A) (broken : Broken) (fault : SegFault) (read : Result A ℕ) (file : FileName) (part : PartName) (end : ℕ) → IsFault broken fault file part end → Fails broken read → AnswersPart view (Err fault) read file part end
fault_answers {X} {A} view (At left) fault read file part end h f = subst (λ x. AnswersPart {X = X} {A = A} view (Err x) read file part end) (sym h) (refl, refl, left, f, refl)
fault_answers {X} {A} view Memory fault read file part end h f = subst (λ x. AnswersPart {X = X} {A = A} view (Err x) read file part end) (sym h) tt

-- the answer by what the fields were read as is that of the reading which these give
pub answers_part : {X A : Type 0} (view : X → A) (fields : Result X Broken) (answer : Result X SegFault) (read : Result A ℕ) (file : FileName) (part : PartName) (end : ℕ) → Gives view fields read → IsAnswer fields answer file part end → AnswersPart view answer read file part end
answers_part view (Ok x) answer read file part end gives same = subst (λ r. AnswersPart view r read file part end) (sym same) gives
answers_part view (Err broken) answer read file part end fails (fault, same, is) = subst (λ r. AnswersPart view r read file part end) (sym same) (fault_answers view broken fault read file part end is fails)

-- what holds of each value that a reading gives holds of the answer
pub answer_found : {X A : Type 0} (view : X → A) (P : A → Type 0) (read : Result A ℕ) → ((x : A) → read ≡ Ok x → P x) → (r : Result X SegFault) (file : FileName) (part : PartName) (end : ℕ) → AnswersPart view r read file part end → IfOk r (λ v. P (view v))
answer_found view P read law (Ok v) file part end h = law (view v) h
answer_found view P read law (Err e) file part end h = tt

-- a value that is read is the answer, unless memory runs out
pub answer_only : {X A : Type 0} (view : X → A) (read : Result A ℕ) (r : Result X SegFault) (file : FileName) (part : PartName) (end : ℕ) → AnswersPart view r read file part end → (x : A) → read ≡ Ok x → AnswersPart view r (Ok x) file part end
answer_only view read r file part end h x e = subst (λ read. AnswersPart view r read file part end) e h
