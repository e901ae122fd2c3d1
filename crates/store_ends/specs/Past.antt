-- What a store in memory keeps of its calls, and the files that a stop at one of their moments may leave.
use Rattle.std.specs.Prelude.{ℕ, zero, suc, ◌≡◌, ◌≤◌, ◌⊎◌, Bool, true, false, List, [], ◌∷◌, ◌++◌, Option, Some, None, Vec, length, bytes_eq, if◌then◌else◌, unwrap_or, refl, find, ◌==◌}
use Rattle.std.specs.Option.{option_map}
use Rattle.std.specs.declared.alloc.Global.{Global}
use Rattle.std.proofs.Common.{inr, arith, sym, ap}
use Rattle.store_ends.specs.Files.{Files, whole, with_file}
use Rattle.store_ends.specs.declared.change.Change.{Change}
use Rattle.store_ends.specs.declared.failing.Left.{Left}
use Rattle.store_ends.specs.declared.failing.Left.TheVariants.{Old, New, Torn}
use Rattle.store_ends.specs.declared.failing.StoreFail.{StoreFail}
use Rattle.store_ends.specs.declared.mem_store.MemStore.{MemStore}
use Rattle.ri_ends.specs.Failing.{call_behind}

abbrev pub state_of : Option (Vec ℕ Global) → Option (List ℕ)
state_of state = option_map (λ bytes. bytes.items) state

-- what is to be left at the call of this number, if it is to fail
abbrev pub failing_call : List StoreFail → ℕ → Option Left
failing_call fails n = option_map (λ fail. fail.left) (find (λ fail. fail.call == n) fails)

-- what the call that is told to fail so makes of the file; `Torn` counts as `Old` where a call is done in one step
abbrev pub made : Bool → Option Left → Option (List ℕ) → Option (List ℕ)
made torn None state = state
made torn (Some Old) state = state
made torn (Some New) state = state
made true (Some (Torn bytes)) state = Some bytes.items
made false (Some (Torn bytes)) state = state

-- whether it is done
abbrev pub is_done : Bool → Option Left → Bool
is_done torn None = true
is_done torn (Some Old) = false
is_done torn (Some New) = true
is_done torn (Some (Torn bytes)) = torn

-- The record of a call on the file of this name.
pub record IsChange (change : Change) (name : List ℕ) (state : Option (List ℕ)) (done torn : Bool) : Type 0 where
  pub same_name : change.name.items ≡ name
  pub same_state : state_of change.state ≡ state
  pub same_done : change.done ≡ done
  pub same_torn : change.torn ≡ torn

-- One more call was recorded.
abbrev pub Records : List Change → List Change → List ℕ → Option (List ℕ) → Bool → Bool → Type 0
Records old new name state done torn = (change : Change) × (new ≡ old ++ change ∷ []) × IsChange change name state done torn

-- the files of these names and contents
abbrev pub first_files : List (Vec ℕ Global × Vec ℕ Global) → Files
first_files [] name = whole None
first_files (file ∷ files) name = if bytes_eq name file.0.items then whole (Some file.1.items) else first_files files name

-- the files after a call
abbrev pub changed : Change → Files → Files
changed change files = if change.done then with_file change.name.items (state_of change.state) files else files

-- the files after these calls
abbrev pub after : Files → List Change → Files
after files [] = files
after files (change ∷ changes) = after (changed change files) changes

-- A stop within the call leaves these files: one that is torn leaves any state of its file.
abbrev pub StopsWithin : Change → Files → Files → Type 0
StopsWithin change before files = (state : Option (List ℕ)) × (files ≡ with_file change.name.items state before) × ((change.torn ≡ true) ⊎ (state ≡ state_of change.state))

-- A stop at some moment from t on leaves these files, where moment 0 is the one before these calls.
abbrev pub LeftSince : Files → List Change → ℕ → Files → Type 0
LeftSince before [] zero files = files ≡ before
LeftSince before [] (suc t) files = ⊥
LeftSince before (change ∷ changes) zero files = (files ≡ before) ⊎ (StopsWithin change before files ⊎ LeftSince (changed change before) changes zero files)
LeftSince before (change ∷ changes) (suc t) files = LeftSince (changed change before) changes t files

-- between the last call and the next there is what there is
pub left_now : (before : Files) (changes : List Change) (files : Files) → LeftSince before changes (length changes) files → Some (after before changes) ≡ Some files
left_now before [] files left = sym (ap (λ (f : Files). Some f) left)
left_now before (change ∷ changes) files left = left_now (changed change before) changes files left

pub now_left : (before : Files) (changes : List Change) (t : ℕ) (files : Files) → t ≤ length changes → Some (after before changes) ≡ Some files → LeftSince before changes t files
now_left before [] zero files le e = sym (ap (λ (o : Option Files). unwrap_or o before) e)
now_left before [] (suc t) files le e = absurd (omega arith)
now_left before (change ∷ changes) zero files le e = inr (inr (now_left (changed change before) changes zero files (omega arith) e))
now_left before (change ∷ changes) (suc t) files le e = now_left (changed change before) changes t files (omega arith) e

pub earlier_left : (before : Files) (changes : List Change) (s t : ℕ) (files : Files) → s ≤ t → LeftSince before changes t files → LeftSince before changes s files
earlier_left before [] zero zero files le left = left
earlier_left before [] zero (suc t) files le left = absurd left
earlier_left before [] (suc s) zero files le left = absurd (omega arith)
earlier_left before [] (suc s) (suc t) files le left = absurd left
earlier_left before (change ∷ changes) zero zero files le left = left
earlier_left before (change ∷ changes) zero (suc t) files le left = inr (inr (earlier_left (changed change before) changes zero t files (omega arith) left))
earlier_left before (change ∷ changes) (suc s) zero files le left = absurd (omega arith)
earlier_left before (change ∷ changes) (suc s) (suc t) files le left = earlier_left (changed change before) changes s t files (omega arith) left

-- One call more: the files after it, and what a stop may leave.
pub after-push : (before : Files) (changes : List Change) (change : Change) → after before (changes ++ change ∷ []) ≡ changed change (after before changes)
after-push before [] change = refl
after-push before (first ∷ changes) change = after-push (changed first before) changes change

-- what a store in memory holds
abbrev pub files_of : MemStore → Files
files_of store = after (first_files store.first.items) store.changes.items

abbrev pub since_of : MemStore → ℕ → Files → Type 0
since_of store = LeftSince (first_files store.first.items) store.changes.items

-- the calls that are to fail
abbrev pub fails_of : MemStore → List StoreFail
fails_of store = store.fails.items

-- the number of the next call
abbrev pub next_call : MemStore → ℕ
next_call store = call_behind store.calls

-- what is to be left at the next call, if it is to fail
abbrev pub next_fail : MemStore → Option Left
next_fail store = failing_call (fails_of store) (next_call store)

-- the files that a call leaves which is told to fail so; `Torn` counts as `Old` where a call is done in one step
abbrev pub left_by : Bool → Left → List ℕ → Option (List ℕ) → Files → Files
left_by torn Old name state files = files
left_by torn New name state files = with_file name state files
left_by true (Torn bytes) name state files = with_file name (Some bytes.items) files
left_by false (Torn bytes) name state files = files
