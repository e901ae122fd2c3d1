-- Pieces that are done one behind the other.
use Rattle.std.proofs.Common.{◌≡◌, ◌⊎◌, inl, inr, ℕ, ◌<◌, zero, suc, ◌||◌, Bool, true, false, List, [], ◌∷◌, ◌++◌, refl, ap, sym, ◌∙◌, subst, Option, Some, None, take, length, append_assoc, append-nil}
use Rattle.std.proofs.Math.Dec.{ltb}
use Rattle.std.proofs.lemmas.Bool.{ltb-false, ltb-true}
use Rattle.std.proofs.lemmas.List.{take_all}
use Rattle.std.specs.Prelude.{unwrap_or}
use Rattle.std.specs.Io.KnownBytes.{append_known}
use Rattle.std.proofs.lemmas.Grind.{flat_map-append}
use Rattle.std.proofs.lemmas.List.Folds.{list_any-append}
use Rattle.store_ends.specs.Files.{Files, Leaves, LeavesNoMore}
use Rattle.store_ends.proofs.Files.{Leaves-none, Leaves-same, Leaves-then}
use Rattle.command_pieces.specs.Faults.{IsBroken}
use Rattle.command_pieces.specs.Pieces.{BrokenOff, Finished, Piece, StandsAlong, StoppedBetween, Writes, kept_behind, some_refused, text_of}
use Rattle.command_pieces.specs.declared.fault.Fault.{Fault}
use Rattle.command_pieces.specs.declared.fault.Fault.TheVariants as fault

append_twice : (taken : Option (List ℕ)) (a b : List ℕ) → append_known taken (a ++ b) ≡ append_known (append_known taken a) b
append_twice None a b = refl
append_twice (Some xs) a b = ap Some (sym (append_assoc xs a b))

pub append_none : (taken : Option (List ℕ)) → append_known taken [] ≡ taken
append_none None = refl
append_none (Some xs) = ap Some (append-nil xs)

or-false : (b : Bool) → (b || false) ≡ b
or-false true = refl
or-false false = refl

text-append : {C : Type 0} (ps qs : List (Piece C)) → text_of (ps ++ qs) ≡ text_of ps ++ text_of qs
text-append ps qs = flat_map-append (λ p. p.text) ps qs

pub refused-append : {C : Type 0} (ps qs : List (Piece C)) → some_refused (ps ++ qs) ≡ (some_refused ps || some_refused qs)
refused-append ps qs = list_any-append (λ p. p.is_refusal) ps qs

pub refused-one : {C : Type 0} (p : Piece C) → some_refused (p ∷ []) ≡ p.is_refusal
refused-one p = or-false p.is_refusal

pub kept-append : {C : Type 0} (kept : C) (ps qs : List (Piece C)) → kept_behind kept (ps ++ qs) ≡ kept_behind (kept_behind kept ps) qs
unfolding kept_behind
kept-append kept [] qs = refl
kept-append kept (p ∷ ps) qs = kept-append (unwrap_or p.flushes kept) ps qs

pub kept-none : {C : Type 0} (kept : C) → kept_behind kept [] ≡ kept
unfolding kept_behind
kept-none kept = refl

writes-both : {C : Type 0} (before mid now : Option (List ℕ)) (ps qs : List (Piece C)) → Writes before mid (text_of ps) → Writes mid now (text_of qs) → Writes before now (text_of (ps ++ qs))
writes-both before mid now ps qs a b =
    b ∙ ap (λ t. append_known t (text_of qs)) a ∙ sym (append_twice before (text_of ps) (text_of qs)) ∙ ap (append_known before) (sym (text-append ps qs))

writes-then : {C : Type 0} (before mid now : Option (List ℕ)) (ps qs : List (Piece C)) (rest : List ℕ) → Writes before mid (text_of ps) → Writes mid now (text_of qs ++ rest) → Writes before now (text_of (ps ++ qs) ++ rest)
writes-then before mid now ps qs rest a b =
    b ∙ ap (λ t. append_known t (text_of qs ++ rest)) a ∙ sym (append_twice before (text_of ps) (text_of qs ++ rest))
    ∙ ap (append_known before) (sym (append_assoc (text_of ps) (text_of qs) rest) ∙ ap (λ t. t ++ rest) (sym (text-append ps qs)))

stands-then : {C : Type 0} (stands : C → Option Files → Type 0) (kept : C) (ps qs : List (Piece C)) (f : Option Files) → stands (kept_behind (kept_behind kept ps) qs) f → stands (kept_behind kept (ps ++ qs)) f
stands-then stands kept ps qs f s = subst (λ k. stands k f) (sym (kept-append kept ps qs)) s

either-then : {C : Type 0} (stands : C → Option Files → Type 0) (kept : C) (ps done next : List (Piece C)) (f : Option Files) → stands (kept_behind (kept_behind kept ps) done) f ⊎ stands (kept_behind (kept_behind kept ps) (done ++ next)) f
    → stands (kept_behind kept (ps ++ done)) f ⊎ stands (kept_behind kept ((ps ++ done) ++ next)) f
either-then stands kept ps done next f either = elim either [
  | inl old ↦ inl (stands-then stands kept ps done f old)
  | inr new ↦ inr (subst (λ qs. stands (kept_behind kept qs) f) (sym (append_assoc ps done next)) (stands-then stands kept ps (done ++ next) f new))
]

-- ---- one piece

pub Finished-one : {C : Type 0} (stands : C → Option Files → Type 0) (kept : C) (p : Piece C) (before now : Option (List ℕ)) (f : Option Files) → now ≡ append_known before p.text → stands (kept_behind kept (p ∷ [])) f
    → Finished stands kept (p ∷ []) before now f
Finished-one stands kept p before now f e s = record { written = e ∙ ap (append_known before) (sym (append-nil p.text)); files_stand = s }

-- A front of one piece is written. A sink that took all of it and failed is one behind the piece.
front-at : {C : Type 0} (stands : C → Option Files → Type 0) (kept : C) (p : Piece C) (n : ℕ) (less : Bool) (before now : Option (List ℕ)) (f : Option Files)
    → ltb n (length p.text) ≡ less → now ≡ append_known before (take n p.text) → stands (kept_behind kept (p ∷ [])) f → BrokenOff stands kept (p ∷ []) before now f
front-at stands kept p n true before now f short written s = record {
  done = [];
  left = p ∷ [];
  are = refl;
  front = n;
  part = inr (subst (λ (t : List ℕ). n < length t) (sym (append-nil p.text)) (ltb-true n (length p.text) short));
  written = written ∙ ap (λ t. append_known before (take n t)) (sym (append-nil p.text));
  files_stand = inr s;
}
front-at stands kept p n false before now f short written s = record {
  done = p ∷ [];
  left = [];
  are = refl;
  front = 0;
  part = inl refl;
  written = written ∙ ap (append_known before) (take_all n p.text (ltb-false n (length p.text) short) ∙ sym (append-nil p.text) ∙ sym (append-nil (text_of (p ∷ []))));
  files_stand = inl s;
}

pub BrokenOff-one : {C : Type 0} (stands : C → Option Files → Type 0) (kept : C) (p : Piece C) (text : List ℕ) (n : ℕ) (before now : Option (List ℕ)) (f : Option Files)
    → text ≡ p.text → now ≡ append_known before (take n text) → stands (kept_behind kept (p ∷ [])) f → BrokenOff stands kept (p ∷ []) before now f
BrokenOff-one stands kept p text n before now f is written s =
    front-at stands kept p n (ltb n (length p.text)) before now f refl (written ∙ ap (λ t. append_known before (take n t)) is) s

-- ---- some pieces are finished, and others follow

pub Finished-none : {C : Type 0} (stands : C → Option Files → Type 0) (kept : C) (taken : Option (List ℕ)) (f : Option Files) → stands kept f → Finished stands kept [] taken taken f
unfolding kept_behind
Finished-none stands kept taken f s = record { written = sym (append_none taken); files_stand = s }

pub Finished-then : {C : Type 0} (stands : C → Option Files → Type 0) (kept : C) (ps qs : List (Piece C)) (before mid now : Option (List ℕ)) (f g : Option Files)
    → Finished stands kept ps before mid f → Finished stands (kept_behind kept ps) qs mid now g → Finished stands kept (ps ++ qs) before now g
Finished-then stands kept ps qs before mid now f g a b = record { written = writes-both before mid now ps qs a.written b.written; files_stand = stands-then stands kept ps qs g b.files_stand }

pub BrokenOff-then : {C : Type 0} (stands : C → Option Files → Type 0) (kept : C) (ps qs : List (Piece C)) (before mid now : Option (List ℕ)) (f g : Option Files)
    → Finished stands kept ps before mid f → BrokenOff stands (kept_behind kept ps) qs mid now g → BrokenOff stands kept (ps ++ qs) before now g
BrokenOff-then stands kept ps qs before mid now f g a b = record {
  done = ps ++ b.done;
  left = b.left;
  are = ap (λ rest. ps ++ rest) b.are ∙ sym (append_assoc ps b.done b.left);
  front = b.front;
  part = b.part;
  written = writes-then before mid now ps b.done (take b.front (text_of (take 1 b.left))) a.written b.written;
  files_stand = either-then stands kept ps b.done (take 1 b.left) g b.files_stand;
}

pub StoppedBetween-then : {C : Type 0} (stands : C → Option Files → Type 0) (kept : C) (ps qs : List (Piece C)) (before mid now : Option (List ℕ)) (f g : Option Files)
    → Finished stands kept ps before mid f → StoppedBetween stands (kept_behind kept ps) qs mid now g → StoppedBetween stands kept (ps ++ qs) before now g
StoppedBetween-then stands kept ps qs before mid now f g a b = record {
  done = ps ++ b.done;
  left = b.left;
  are = ap (λ rest. ps ++ rest) b.are ∙ sym (append_assoc ps b.done b.left);
  written = writes-both before mid now ps b.done a.written b.written;
  files_stand = either-then stands kept ps b.done (take 1 b.left) g b.files_stand;
}

pub broken-then : {C : Type 0} (e : Fault) (stands : C → Option Files → Type 0) (kept : C) (ps qs : List (Piece C)) (before mid now : Option (List ℕ)) (f g : Option Files)
    → Finished stands kept ps before mid f → IsBroken e stands (kept_behind kept ps) qs mid now g → IsBroken e stands kept (ps ++ qs) before now g
broken-then fault.Read stands kept ps qs before mid now f g a b = StoppedBetween-then stands kept ps qs before mid now f g a b
broken-then fault.Write stands kept ps qs before mid now f g a b = BrokenOff-then stands kept ps qs before mid now f g a b
broken-then fault.Memory stands kept ps qs before mid now f g a b = StoppedBetween-then stands kept ps qs before mid now f g a b

pub Along-then : {C : Type 0} (past mid since : ℕ → Files → Type 0) (stands : C → Option Files → Type 0) (kept : C) (ps qs : List (Piece C))
    → Leaves past mid (StandsAlong stands kept ps) → Leaves mid since (StandsAlong stands (kept_behind kept ps) qs) → Leaves past since (StandsAlong stands kept (ps ++ qs))
Along-then past mid since stands kept ps qs a b = record {
  each = λ t f s. elim (b.each t f s) [
    | inl m ↦ elim (a.each t f m) [
      | inl p ↦ inl p
      | inr x ↦ inr (record { done = x.done; left = x.left ++ qs; are = ap (λ rest. rest ++ qs) x.are ∙ append_assoc x.done x.left qs; files_stand = x.files_stand })
    ]
    | inr x ↦ inr (record { done = ps ++ x.done; left = x.left; are = ap (λ rest. ps ++ rest) x.are ∙ sym (append_assoc ps x.done x.left); files_stand = stands-then stands kept ps x.done (Some f) x.files_stand })
  ];
}

-- ---- pieces that are broken off, of which more would have followed

take-nil : (n : ℕ) → take {A = ℕ} n [] ≡ []
take-nil zero = refl
take-nil (suc n) = refl

take-zero : (xs : List ℕ) → take 0 xs ≡ []
take-zero [] = refl
take-zero (x ∷ xs) = refl

-- behind all of these pieces no further one is begun
either-nil : {C : Type 0} (stands : C → Option Files → Type 0) (kept : C) (done : List (Piece C)) (f : Option Files) → stands (kept_behind kept done) f ⊎ stands (kept_behind kept (done ++ [])) f → stands (kept_behind kept done) f
either-nil stands kept done f either = elim either [
  | inl s ↦ s
  | inr s ↦ subst (λ ps. stands (kept_behind kept ps) f) (append-nil done) s
]

BrokenOff-parts : {C : Type 0} (stands : C → Option Files → Type 0) (kept : C) (done left qs : List (Piece C)) (front : ℕ) (before now : Option (List ℕ)) (f : Option Files)
    → (front ≡ 0) ⊎ (front < length (text_of (take 1 left))) → Writes before now (text_of done ++ take front (text_of (take 1 left)))
    → stands (kept_behind kept done) f ⊎ stands (kept_behind kept (done ++ take 1 left)) f → BrokenOff stands kept ((done ++ left) ++ qs) before now f
BrokenOff-parts stands kept done [] qs front before now f part written s = record {
  done = done;
  left = qs;
  are = ap (λ ps. ps ++ qs) (append-nil done);
  front = 0;
  part = inl refl;
  written = written ∙ ap (λ t. append_known before (text_of done ++ t)) (take-nil front ∙ sym (take-zero (text_of (take 1 qs))));
  files_stand = inl (either-nil stands kept done f s);
}
BrokenOff-parts stands kept done (p ∷ left) qs front before now f part written s = record {
  done = done;
  left = (p ∷ left) ++ qs;
  are = append_assoc done (p ∷ left) qs;
  front = front;
  part = part;
  written = written;
  files_stand = s;
}

pub BrokenOff-more : {C : Type 0} (stands : C → Option Files → Type 0) (kept : C) (ps qs : List (Piece C)) (before now : Option (List ℕ)) (f : Option Files) → BrokenOff stands kept ps before now f → BrokenOff stands kept (ps ++ qs) before now f
BrokenOff-more stands kept ps qs before now f b =
    subst (λ all. BrokenOff stands kept (all ++ qs) before now f) (sym b.are) (BrokenOff-parts stands kept b.done b.left qs b.front before now f b.part b.written b.files_stand)

StoppedBetween-parts : {C : Type 0} (stands : C → Option Files → Type 0) (kept : C) (done left qs : List (Piece C)) (before now : Option (List ℕ)) (f : Option Files)
    → Writes before now (text_of done) → stands (kept_behind kept done) f ⊎ stands (kept_behind kept (done ++ take 1 left)) f → StoppedBetween stands kept ((done ++ left) ++ qs) before now f
StoppedBetween-parts stands kept done [] qs before now f written s = record {
  done = done;
  left = qs;
  are = ap (λ ps. ps ++ qs) (append-nil done);
  written = written;
  files_stand = inl (either-nil stands kept done f s);
}
StoppedBetween-parts stands kept done (p ∷ left) qs before now f written s = record {
  done = done;
  left = (p ∷ left) ++ qs;
  are = append_assoc done (p ∷ left) qs;
  written = written;
  files_stand = s;
}

pub StoppedBetween-more : {C : Type 0} (stands : C → Option Files → Type 0) (kept : C) (ps qs : List (Piece C)) (before now : Option (List ℕ)) (f : Option Files) → StoppedBetween stands kept ps before now f → StoppedBetween stands kept (ps ++ qs) before now f
StoppedBetween-more stands kept ps qs before now f b =
    subst (λ all. StoppedBetween stands kept (all ++ qs) before now f) (sym b.are) (StoppedBetween-parts stands kept b.done b.left qs before now f b.written b.files_stand)

pub broken-more : {C : Type 0} (e : Fault) (stands : C → Option Files → Type 0) (kept : C) (ps qs : List (Piece C)) (before now : Option (List ℕ)) (f : Option Files) → IsBroken e stands kept ps before now f → IsBroken e stands kept (ps ++ qs) before now f
broken-more fault.Read stands kept ps qs before now f b = StoppedBetween-more stands kept ps qs before now f b
broken-more fault.Write stands kept ps qs before now f b = BrokenOff-more stands kept ps qs before now f b
broken-more fault.Memory stands kept ps qs before now f b = StoppedBetween-more stands kept ps qs before now f b

pub Along-more : {C : Type 0} (past since : ℕ → Files → Type 0) (stands : C → Option Files → Type 0) (kept : C) (ps qs : List (Piece C)) → Leaves past since (StandsAlong stands kept ps) → Leaves past since (StandsAlong stands kept (ps ++ qs))
Along-more past since stands kept ps qs a = record {
  each = λ t f s. elim (a.each t f s) [
    | inl p ↦ inl p
    | inr x ↦ inr (record { done = x.done; left = x.left ++ qs; are = ap (λ rest. rest ++ qs) x.are ∙ append_assoc x.done x.left qs; files_stand = x.files_stand })
  ];
}

-- ---- the pieces that are done are finished, or none is begun

-- All that is done are these pieces, and the rest isn't begun.
pub StoppedBetween-finished : {C : Type 0} (stands : C → Option Files → Type 0) (kept : C) (ps qs : List (Piece C)) (before now : Option (List ℕ)) (f : Option Files) → Finished stands kept ps before now f → StoppedBetween stands kept (ps ++ qs) before now f
StoppedBetween-finished stands kept ps qs before now f a = record { done = ps; left = qs; are = refl; written = a.written; files_stand = inl a.files_stand }

pub StoppedBetween-all : {C : Type 0} (stands : C → Option Files → Type 0) (kept : C) (ps : List (Piece C)) (before now : Option (List ℕ)) (f : Option Files) → Finished stands kept ps before now f → StoppedBetween stands kept ps before now f
StoppedBetween-all stands kept ps before now f a = record { done = ps; left = []; are = sym (append-nil ps); written = a.written; files_stand = inl a.files_stand }

pub StoppedBetween-none : {C : Type 0} (stands : C → Option Files → Type 0) (kept : C) (ps : List (Piece C)) (before now : Option (List ℕ)) (f : Option Files) → now ≡ before → stands kept f → StoppedBetween stands kept ps before now f
unfolding kept_behind
StoppedBetween-none stands kept ps before now f e s = record { done = []; left = ps; are = refl; written = e ∙ sym (append_none before); files_stand = inl s }

pub BrokenOff-between : {C : Type 0} (stands : C → Option Files → Type 0) (kept : C) (ps : List (Piece C)) (before now : Option (List ℕ)) (f : Option Files) → StoppedBetween stands kept ps before now f → BrokenOff stands kept ps before now f
BrokenOff-between stands kept ps before now f b = record {
  done = b.done;
  left = b.left;
  are = b.are;
  front = 0;
  part = inl refl;
  written = b.written ∙ ap (append_known before) (sym (append-nil (text_of b.done)) ∙ ap (λ t. text_of b.done ++ t) (sym (take-zero (text_of (take 1 b.left)))));
  files_stand = b.files_stand;
}

-- ---- behind all pieces the files are changed, and stand for the same

pub Finished-kept : {C : Type 0} (stands : C → Option Files → Type 0) (kept : C) (ps : List (Piece C)) (before now : Option (List ℕ)) (f g : Option Files) → Finished stands kept ps before now f
    → ((k : C) → stands k f → stands k g) → Finished stands kept ps before now g
Finished-kept stands kept ps before now f g a same = record { written = a.written; files_stand = same _ a.files_stand }

pub Along-kept : {C : Type 0} (past mid since : ℕ → Files → Type 0) (stands : C → Option Files → Type 0) (kept : C) (ps : List (Piece C)) (before now : Option (List ℕ)) (f : Option Files)
    → Leaves past mid (StandsAlong stands kept ps) → Finished stands kept ps before now f → ((k : C) → stands k f → Leaves mid since (stands k)) → Leaves past since (StandsAlong stands kept ps)
Along-kept past mid since stands kept ps before now f leaves a more =
    Leaves-then past mid since (StandsAlong stands kept ps) (stands (kept_behind kept ps)) leaves (more _ a.files_stand) (λ g s. record { done = ps; left = []; are = sym (append-nil ps); files_stand = s })

pub Along-quiet : {C : Type 0} (past since : ℕ → Files → Type 0) (stands : C → Option Files → Type 0) (kept : C) (ps : List (Piece C)) → LeavesNoMore past since → Leaves past since (StandsAlong stands kept ps)
Along-quiet past since stands kept ps quiet = Leaves-none past past since (StandsAlong stands kept ps) (Leaves-same past _) quiet
