-- Pieces of a command that changes no files, in one that changes some.
use Rattle.std.proofs.Common.{◌≡◌, inl, inr, ℕ, ◌<◌, ◌||◌, List, [], ◌∷◌, ◌++◌, refl, ap, sym, ◌∙◌, subst, Option, take, length}
use Rattle.std.specs.Io.KnownBytes.{append_known}
use Rattle.std.proofs.lemmas.List.{map-append}
use Rattle.store_ends.specs.Files.{Files}
use Rattle.command_pieces.specs.Faults.{IsBroken, IsCut}
use Rattle.command_pieces.specs.Pieces.{BrokenOff, Finished, StoppedBetween, kept_behind, some_refused, text_of}
use Rattle.command_pieces.specs.Written.{AllWritten, CutBetween, CutWithin, Plain, unflushed, with_flush, without_flush}
use Rattle.command_pieces.specs.declared.fault.Fault.{Fault}
use Rattle.command_pieces.specs.declared.fault.Fault.TheVariants as fault
use Rattle.command_pieces.proofs.Joining.{BrokenOff-one, Finished-one}

text_same : (C : Type 0) (ps : List Plain) → text_of {C = C} (unflushed ps) ≡ text_of ps
text_same C [] = refl
text_same C (p ∷ ps) = ap (λ t. p.text ++ t) (text_same C ps)

pub refused_same : (C : Type 0) (ps : List Plain) → some_refused {C = C} (unflushed ps) ≡ some_refused ps
refused_same C [] = refl
refused_same C (p ∷ ps) = ap (λ b. p.is_refusal || b) (refused_same C ps)

pub kept_same : {C : Type 0} (kept : C) (ps : List Plain) → kept_behind kept (unflushed ps) ≡ kept
unfolding kept_behind
kept_same kept [] = refl
kept_same kept (p ∷ ps) = kept_same kept ps

first_same : (C : Type 0) (ps : List Plain) → text_of {C = C} (take 1 (unflushed ps)) ≡ text_of (take 1 ps)
first_same C [] = refl
first_same C (p ∷ []) = refl
first_same C (p ∷ q ∷ ps) = refl

pub Finished-lifted : {C : Type 0} (stands : C → Option Files → Type 0) (kept : C) (ps : List Plain) (before now : Option (List ℕ)) (f : Option Files) → AllWritten ps before now → stands kept f
    → Finished stands kept (unflushed ps) before now f
Finished-lifted {C = C} stands kept ps before now f a s = record {
  written = a.written ∙ ap (append_known before) (sym (text_same C ps));
  files_stand = subst (λ k. stands k f) (sym (kept_same kept ps)) s;
}

between-lifted : {C : Type 0} (stands : C → Option Files → Type 0) (kept : C) (ps : List Plain) (before now : Option (List ℕ)) (f : Option Files) → CutBetween ps before now → stands kept f
    → StoppedBetween stands kept (unflushed ps) before now f
between-lifted {C = C} stands kept ps before now f b s = record {
  done = unflushed b.done;
  left = unflushed b.left;
  are = ap unflushed b.are ∙ map-append without_flush b.done b.left;
  written = b.written ∙ ap (append_known before) (sym (text_same C b.done));
  files_stand = inl (subst (λ k. stands k f) (sym (kept_same kept b.done)) s);
}

within-lifted : {C : Type 0} (stands : C → Option Files → Type 0) (kept : C) (ps : List Plain) (before now : Option (List ℕ)) (f : Option Files) → CutWithin ps before now → stands kept f
    → BrokenOff stands kept (unflushed ps) before now f
within-lifted {C = C} stands kept ps before now f b s =
    let first : text_of {C = C} (take 1 (unflushed b.left)) ≡ text_of (take 1 b.left) = first_same C b.left in
    record {
      done = unflushed b.done;
      left = unflushed b.left;
      are = ap unflushed b.are ∙ map-append without_flush b.done b.left;
      front = b.front;
      part = elim b.part [ inl e ↦ inl e | inr less ↦ inr (subst (λ t. b.front < length t) (sym first) less) ];
      written = b.written ∙ ap (λ t. append_known before (t ++ take b.front (text_of (take 1 b.left)))) (sym (text_same C b.done))
          ∙ ap (λ t. append_known before (text_of {C = C} (unflushed b.done) ++ take b.front t)) (sym first);
      files_stand = inl (subst (λ k. stands k f) (sym (kept_same kept b.done)) s);
    }

pub broken-lifted : {C : Type 0} (e : Fault) (stands : C → Option Files → Type 0) (kept : C) (ps : List Plain) (before now : Option (List ℕ)) (f : Option Files) → IsCut e ps before now → stands kept f
    → IsBroken e stands kept (unflushed ps) before now f
broken-lifted fault.Read stands kept ps before now f b s = between-lifted stands kept ps before now f b s
broken-lifted fault.Write stands kept ps before now f b s = within-lifted stands kept ps before now f b s
broken-lifted fault.Memory stands kept ps before now f b s = between-lifted stands kept ps before now f b s

-- ---- a piece that is a flush point: the files stand for c by the time it is written

pub flushed_by : {C : Type 0} (kept c : C) (p : Plain) → kept_behind kept (with_flush c p ∷ []) ≡ c
unfolding kept_behind
flushed_by kept c p = refl

pub Finished-flush : {C : Type 0} (stands : C → Option Files → Type 0) (kept c : C) (p : Plain) (before now : Option (List ℕ)) (f : Option Files) → now ≡ append_known before p.text → stands c f
    → Finished stands kept (with_flush c p ∷ []) before now f
Finished-flush stands kept c p before now f e s = Finished-one stands kept (with_flush c p) before now f e (subst (λ k. stands k f) (sym (flushed_by kept c p)) s)

pub BrokenOff-flush : {C : Type 0} (stands : C → Option Files → Type 0) (kept c : C) (p : Plain) (n : ℕ) (before now : Option (List ℕ)) (f : Option Files) → now ≡ append_known before (take n p.text) → stands c f
    → BrokenOff stands kept (with_flush c p ∷ []) before now f
BrokenOff-flush stands kept c p n before now f e s = BrokenOff-one stands kept (with_flush c p) p.text n before now f refl e (subst (λ k. stands k f) (sym (flushed_by kept c p)) s)
