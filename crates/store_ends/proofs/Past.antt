-- Calls of a store in memory, one after the other.
use Rattle.std.proofs.Common.{◌≡◌, ◌⊎◌, inl, inr, ℕ, zero, suc, ◌<◌, ◌+◌, List, [], ◌∷◌, ◌++◌, length, get_or, take, refl, sym, ap, ◌∙◌, subst, Bool, true, false, Option, Some, None, add-one}
use Rattle.std.specs.Prelude.{unwrap_or, bytes_eq, if◌then◌else◌, ◌&&◌, IsSome, IsSomeAnd}
use Rattle.std.proofs.Math.Seq.{take-suc}
use Rattle.store_ends.specs.Files.{Files, whole, with_file, Leaves, AnyState, OldOrNew}
use Rattle.store_ends.proofs.Files.{set_file-own}
use Rattle.store_ends.specs.Past.{changed, after, after-push, state_of, LeftSince, StopsWithin, Records, made, is_done, left_by}
use Rattle.store_ends.specs.declared.change.Change.{Change}
use Rattle.store_ends.specs.declared.failing.Left.{Left}
use Rattle.store_ends.specs.declared.failing.Left.TheVariants.{Old, New, Torn}

pub apart : true ≡ false → ⊥
apart e = cc

pub changed-at : (change : Change) (f : Files) (name : List ℕ) → changed change f name ≡ (if change.done && bytes_eq name change.name.items then whole (state_of change.state) else f name)
changed-at change f name = elim change.done as (λ b. (if b then with_file change.name.items (state_of change.state) f else f) name ≡ (if b && bytes_eq name change.name.items then whole (state_of change.state) else f name)) [ true ↦ refl | false ↦ refl ]

pub after-more : (f : Files) (changes : List Change) (i : ℕ) (change : Change) (name : List ℕ) → i < length changes → change ≡ get_or changes i change
    → after f (take (i + 1) changes) name ≡ (if change.done && bytes_eq name change.name.items then whole (state_of change.state) else after f (take i changes) name)
after-more f changes i change name within is =
    let split : take (i + 1) changes ≡ take i changes ++ change ∷ [] = rw add-one (take-suc changes i change within ∙ ap (λ c. take i changes ++ c ∷ []) (sym is)) in
    ap (λ cs. after f cs name) split ∙ ap (λ files. files name) (after-push f (take i changes) change) ∙ changed-at change (after f (take i changes)) name

-- What a stop may leave after one call more.
pub LeftSince-push : (before : Files) (changes : List Change) (change : Change) (t : ℕ) (files : Files) → LeftSince before (changes ++ change ∷ []) t files
    → LeftSince before changes t files ⊎ (StopsWithin change (after before changes) files ⊎ (files ≡ changed change (after before changes)))
LeftSince-push before [] change zero files left = left
LeftSince-push before [] change (suc zero) files left = inr (inr left)
LeftSince-push before [] change (suc (suc t)) files left = absurd left
LeftSince-push before (first ∷ changes) change zero files left = elim left [
  | inl here ↦ inl (inl here)
  | inr behind ↦ elim behind [
    | inl within ↦ inl (inr (inl within))
    | inr rest ↦ elim (LeftSince-push (changed first before) changes change zero files rest) [ inl old ↦ inl (inr (inr old)) | inr new ↦ inr new ]
  ]
]
LeftSince-push before (first ∷ changes) change (suc t) files left = LeftSince-push (changed first before) changes change t files left

-- what was recorded, by what the call is told
pub recorded : (old new : List Change) (name : List ℕ) (state kept : Option (List ℕ)) (done torn : Bool) (found told : Option Left) → found ≡ told → kept ≡ made torn found state → done ≡ is_done torn found
    → Records old new name kept done torn → Records old new name (made torn told state) (is_done torn told) torn
recorded old new name state kept done torn found told same made_is done_is r = (
  r.0,
  r.1,
  record {
    same_name = r.2.same_name;
    same_state = r.2.same_state ∙ made_is ∙ ap (λ (l : Option Left). made torn l state) same;
    same_done = r.2.same_done ∙ done_is ∙ ap (λ (l : Option Left). is_done torn l) same;
    same_torn = r.2.same_torn;
  },
)

-- A call that was done made its state of the file.
pub after-done : (first : Files) (old new : List Change) (name : List ℕ) (state : Option (List ℕ)) (torn : Bool) → Records old new name state true torn → after first new ≡ with_file name state (after first old)
after-done first old new name state torn r =
    ap (after first) r.1 ∙ after-push first old r.0 ∙ ap (λ b. if b then with_file r.0.name.items (state_of r.0.state) (after first old) else after first old) r.2.same_done
    ∙ ap (λ n. with_file n (state_of r.0.state) (after first old)) r.2.same_name ∙ ap (λ s. with_file name s (after first old)) r.2.same_state

-- One that wasn't left the files as they were.
pub after-undone : (first : Files) (old new : List Change) (name : List ℕ) (state : Option (List ℕ)) (torn : Bool) → Records old new name state false torn → after first new ≡ after first old
after-undone first old new name state torn r =
    ap (after first) r.1 ∙ after-push first old r.0 ∙ ap (λ b. if b then with_file r.0.name.items (state_of r.0.state) (after first old) else after first old) r.2.same_done

pub after-any : (first : Files) (old new : List Change) (name : List ℕ) (state : Option (List ℕ)) (done torn : Bool) → Records old new name state done torn → AnyState name (Some (after first old)) (Some (after first new))
after-any first old new name state true torn r = (whole state, ap (λ (f : Files). Some f) (after-done first old new name state torn r))
after-any first old new name state false torn r = (after first old name, ap (λ (f : Files). Some f) (after-undone first old new name state torn r ∙ sym (set_file-own name (after first old))))

pub after-step : (first : Files) (old new : List Change) (name : List ℕ) (state : Option (List ℕ)) (done torn : Bool) → Records old new name state done torn → OldOrNew name state (Some (after first old)) (Some (after first new))
after-step first old new name state true torn r = inr (ap (λ (f : Files). Some f) (after-done first old new name state torn r))
after-step first old new name state false torn r = inl (ap (λ (f : Files). Some f) (after-undone first old new name state torn r))

-- what a stop leaves within one call more or behind it
pushed : (first : Files) (old new : List Change) (name : List ℕ) (state : Option (List ℕ)) (done torn : Bool) (r : Records old new name state done torn) (t : ℕ) (files : Files) → LeftSince first new t files
    → LeftSince first old t files ⊎ (StopsWithin r.0 (after first old) files ⊎ (files ≡ after first new))
pushed first old new name state done torn r t files left =
    elim (LeftSince-push first old r.0 t files (subst (λ (cs : List Change). LeftSince first cs t files) r.1 left)) [
      | inl before ↦ inl before
      | inr here ↦ elim here [
        | inl within ↦ inr (inl within)
        | inr behind ↦ inr (inr (behind ∙ sym (ap (after first) r.1 ∙ after-push first old r.0)))
      ]
    ]

pub stops-any : (first : Files) (old new : List Change) (name : List ℕ) (state : Option (List ℕ)) (done torn : Bool) → Records old new name state done torn
    → Leaves (LeftSince first old) (LeftSince first new) (AnyState name (Some (after first old)))
stops-any first old new name state done torn r = record {
  each = λ t files left. elim (pushed first old new name state done torn r t files left) [
    | inl before ↦ inl before
    | inr here ↦ elim here [
      | inl within ↦ inr (whole within.0, ap (λ (f : Files). Some f) (within.1 ∙ ap (λ n. with_file n within.0 (after first old)) r.2.same_name))
      | inr behind ↦ inr (subst (λ (f : Files). AnyState name (Some (after first old)) (Some f)) (sym behind) (after-any first old new name state done torn r))
    ]
  ];
}

pub stops-step : (first : Files) (old new : List Change) (name : List ℕ) (state : Option (List ℕ)) (done : Bool) → Records old new name state done false
    → Leaves (LeftSince first old) (LeftSince first new) (OldOrNew name state (Some (after first old)))
stops-step first old new name state done r = record {
  each = λ t files left. elim (pushed first old new name state done false r t files left) [
    | inl before ↦ inl before
    | inr here ↦ elim here [
      | inl within ↦ elim within.2 [
        | inl torn ↦ absurd (apart (sym torn ∙ r.2.same_torn))
        | inr made ↦ inr (inr (ap (λ (f : Files). Some f) (within.1 ∙ ap (λ n. with_file n within.0 (after first old)) r.2.same_name ∙ ap (λ s. with_file name s (after first old)) (made ∙ r.2.same_state))))
      ]
      | inr behind ↦ inr (subst (λ (f : Files). OldOrNew name state (Some (after first old)) (Some f)) (sym behind) (after-step first old new name state done false r))
    ]
  ];
}

some_none : (left : Left) → Some left ≡ None → ⊥
some_none left e = cc

pub done_at : (first : Files) (old new : List Change) (name : List ℕ) (state : Option (List ℕ)) (torn : Bool) (left : Option Left) → left ≡ None → Records old new name (made torn left state) (is_done torn left) torn → after first new ≡ with_file name state (after first old)
done_at first old new name state torn None e r = after-done first old new name state torn r
done_at first old new name state torn (Some left) e r = absurd (some_none left e)

pub failed_at : (first : Files) (old new : List Change) (name : List ℕ) (state : Option (List ℕ)) (torn : Bool) (left : Option Left) → IsSome left → Records old new name (made torn left state) (is_done torn left) torn
    → IsSomeAnd left (λ l. after first new ≡ left_by torn l name state (after first old))
failed_at first old new name state torn None some r = absurd (apart (sym some))
failed_at first old new name state torn (Some Old) some r = after-undone first old new name state torn r
failed_at first old new name state torn (Some New) some r = after-done first old new name state torn r
failed_at first old new name state true (Some (Torn bytes)) some r = after-done first old new name (Some bytes.items) true r
failed_at first old new name state false (Some (Torn bytes)) some r = after-undone first old new name state false r

made-step : (left : Option Left) (state : Option (List ℕ)) → made false left state ≡ state
made-step None state = refl
made-step (Some Old) state = refl
made-step (Some New) state = refl
made-step (Some (Torn bytes)) state = refl

pub in_one_step : (old new : List Change) (name : List ℕ) (state : Option (List ℕ)) (torn : Bool) (left : Option Left) → torn ≡ false → Records old new name (made torn left state) (is_done torn left) torn → Records old new name state (is_done false left) false
in_one_step old new name state true left e r = absurd (apart e)
in_one_step old new name state false left e r = (r.0, r.1, record { same_name = r.2.same_name; same_state = r.2.same_state ∙ made-step left state; same_done = r.2.same_done; same_torn = r.2.same_torn })

-- What a stop within the last call leaves is among what a stop since the moment before it may leave.
pub LeftSince-within : (before : Files) (changes : List Change) (change : Change) (files : Files) → StopsWithin change (after before changes) files → LeftSince before (changes ++ change ∷ []) (length changes) files
LeftSince-within before [] change files within = inr (inl within)
LeftSince-within before (first ∷ changes) change files within = LeftSince-within (changed first before) changes change files within

pub within_torn : (first : Files) (old new : List Change) (name : List ℕ) (made_state : Option (List ℕ)) (done torn : Bool) (state : Option (List ℕ)) → torn ≡ true → Records old new name made_state done torn
    → LeftSince first new (length old) (with_file name state (after first old))
within_torn first old new name made_state done torn state is_torn r =
    subst (λ (cs : List Change). LeftSince first cs (length old) (with_file name state (after first old))) (sym r.1)
    (LeftSince-within first old r.0 (with_file name state (after first old)) (state, ap (λ n. with_file n state (after first old)) (sym r.2.same_name), inl (r.2.same_torn ∙ is_torn)))

pub LeftSince-before : (before : Files) (changes : List Change) (change : Change) (files : Files) → files ≡ after before changes → LeftSince before (changes ++ change ∷ []) (length changes) files
LeftSince-before before [] change files same = inl same
LeftSince-before before (first ∷ changes) change files same = LeftSince-before (changed first before) changes change files same

same_told : (f g : Files) → Some f ≡ Some g → f ≡ g
same_told f g e = ap (λ (o : Option Files). unwrap_or o g) e

pub within_step : (first : Files) (old new : List Change) (name : List ℕ) (state : Option (List ℕ)) (done : Bool) (files : Files) → Records old new name state done false
    → OldOrNew name state (Some (after first old)) (Some files) → LeftSince first new (length old) files
within_step first old new name state done files r step =
    subst (λ (cs : List Change). LeftSince first cs (length old) files) (sym r.1) (elim step [
      | inl same ↦ LeftSince-before first old r.0 files (same_told files (after first old) same)
      | inr made ↦ LeftSince-within first old r.0 files
          (state, same_told files (with_file name state (after first old)) made ∙ ap (λ n. with_file n state (after first old)) (sym r.2.same_name), inr (sym r.2.same_state))
    ])
