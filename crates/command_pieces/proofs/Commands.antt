-- Pieces of a command over files, which is broken off at some of them.
use Rattle.std.proofs.Common.{◌≡◌, ◌⊎◌, inl, inr, ℕ, List, [], ◌∷◌, ◌++◌, Option, Bool, ◌||◌, true, false, append-nil, refl, sym, ap, subst, ◌∙◌}
use Rattle.ri_base.specs.declared.seg_fault.SegFault.{SegFault}
use Rattle.ri_base.specs.declared.seg_fault.SegFault.TheVariants as files
use Rattle.store_ends.specs.Files.{Files, Leaves}
use Rattle.store_ends.proofs.Files.{Leaves-same, Leaves-then}
use Rattle.command_pieces.specs.CommandFaults.{IsBrokenBy, of_files, of_items}
use Rattle.command_pieces.specs.Faults.{IsBroken, IsCut}
use Rattle.command_pieces.specs.Pieces.{Finished, Piece, StandsAlong, StoppedBetween, kept_behind, some_refused}
use Rattle.command_pieces.specs.Written.{AllWritten, Plain, unflushed, with_flush}
use Rattle.command_pieces.specs.declared.command_fault.CommandFault.{CommandFault}
use Rattle.command_pieces.specs.declared.command_fault.CommandFault.TheVariants as command
use Rattle.command_pieces.specs.declared.fault.Fault.{Fault}
use Rattle.command_pieces.specs.declared.fault.Fault.TheVariants as fault
use Rattle.command_pieces.proofs.Joining.{Along-then, append_none, BrokenOff-more, BrokenOff-then, Finished-then, refused-append, StoppedBetween-all, StoppedBetween-more, StoppedBetween-then}
use Rattle.command_pieces.proofs.Lifting.{Finished-lifted, broken-lifted, kept_same, refused_same}

-- items are broken off
pub by-items : {C : Type 0} (e : Fault) (stands : C → Option Files → Type 0) (kept : C) (ps : List (Piece C)) (before now : Option (List ℕ)) (f : Option Files)
    → IsBroken e stands kept ps before now f → IsBrokenBy (of_items e) stands kept ps before now f
by-items fault.Read stands kept ps before now f b = b
by-items fault.Write stands kept ps before now f b = b
by-items fault.Memory stands kept ps before now f b = b

-- a call on files is refused
pub by-files : {C : Type 0} (e : SegFault) (stands : C → Option Files → Type 0) (kept : C) (ps : List (Piece C)) (before now : Option (List ℕ)) (f : Option Files)
    → StoppedBetween stands kept ps before now f → IsBrokenBy (of_files e) stands kept ps before now f
by-files (files.Malformed file part place) stands kept ps before now f b = b
by-files (files.Missing file) stands kept ps before now f b = b
by-files files.Store stands kept ps before now f b = b
by-files files.Memory stands kept ps before now f b = b

-- some pieces are finished, and others are broken off
pub by-then : {C : Type 0} (e : CommandFault) (stands : C → Option Files → Type 0) (kept : C) (ps qs : List (Piece C)) (before mid now : Option (List ℕ)) (f g : Option Files)
    → Finished stands kept ps before mid f → IsBrokenBy e stands (kept_behind kept ps) qs mid now g → IsBrokenBy e stands kept (ps ++ qs) before now g
by-then command.Read stands kept ps qs before mid now f g a b = StoppedBetween-then stands kept ps qs before mid now f g a b
by-then command.Write stands kept ps qs before mid now f g a b = BrokenOff-then stands kept ps qs before mid now f g a b
by-then command.Store stands kept ps qs before mid now f g a b = StoppedBetween-then stands kept ps qs before mid now f g a b
by-then (command.Malformed file part place) stands kept ps qs before mid now f g a b = StoppedBetween-then stands kept ps qs before mid now f g a b
by-then (command.Missing file) stands kept ps qs before mid now f g a b = StoppedBetween-then stands kept ps qs before mid now f g a b
by-then command.NoRepository stands kept ps qs before mid now f g a b = b
by-then command.Exists stands kept ps qs before mid now f g a b = b
by-then command.Memory stands kept ps qs before mid now f g a b = StoppedBetween-then stands kept ps qs before mid now f g a b

-- pieces are broken off, of which more would have followed
pub by-more : {C : Type 0} (e : CommandFault) (stands : C → Option Files → Type 0) (kept : C) (ps qs : List (Piece C)) (before now : Option (List ℕ)) (f : Option Files)
    → IsBrokenBy e stands kept ps before now f → IsBrokenBy e stands kept (ps ++ qs) before now f
by-more command.Read stands kept ps qs before now f b = StoppedBetween-more stands kept ps qs before now f b
by-more command.Write stands kept ps qs before now f b = BrokenOff-more stands kept ps qs before now f b
by-more command.Store stands kept ps qs before now f b = StoppedBetween-more stands kept ps qs before now f b
by-more (command.Malformed file part place) stands kept ps qs before now f b = StoppedBetween-more stands kept ps qs before now f b
by-more (command.Missing file) stands kept ps qs before now f b = StoppedBetween-more stands kept ps qs before now f b
by-more command.NoRepository stands kept ps qs before now f b = b
by-more command.Exists stands kept ps qs before now f b = b
by-more command.Memory stands kept ps qs before now f b = StoppedBetween-more stands kept ps qs before now f b

-- All pieces are finished, and what follows is refused: the files are changed, and stand for the same.
pub by-behind : {C : Type 0} (e : SegFault) (stands : C → Option Files → Type 0) (kept : C) (ps : List (Piece C)) (before now : Option (List ℕ)) (f g : Option Files)
    → Finished stands kept ps before now f → stands (kept_behind kept ps) g → IsBrokenBy (of_files e) stands kept ps before now g
by-behind e stands kept ps before now f g a s =
    by-files e stands kept ps before now g (StoppedBetween-all stands kept ps before now g (record { written = a.written; files_stand = s }))

-- ---- one piece that is a flush point

-- nothing of it is written, and the files stand for what they stood for, or for what they stand for behind it
pub StoppedBetween-flush : {C : Type 0} (stands : C → Option Files → Type 0) (kept c : C) (p : Plain) (before now : Option (List ℕ)) (f : Option Files)
    → now ≡ before → stands kept f ⊎ stands c f → StoppedBetween stands kept (with_flush c p ∷ []) before now f
unfolding kept_behind
StoppedBetween-flush stands kept c p before now f e either = record { done = []; left = with_flush c p ∷ []; are = refl; written = e ∙ sym (append_none before); files_stand = either }

along-either : {C : Type 0} (stands : C → Option Files → Type 0) (kept c : C) (p : Plain) (f : Option Files) → stands kept f ⊎ stands c f → StandsAlong stands kept (with_flush c p ∷ []) f
unfolding kept_behind
along-either stands kept c p f either = elim either [
  | inl old ↦ record { done = []; left = with_flush c p ∷ []; are = refl; files_stand = old }
  | inr new ↦ record { done = with_flush c p ∷ []; left = []; are = refl; files_stand = new }
]

-- what a stop leaves in it
pub Along-flush : {C : Type 0} (past since : ℕ → Files → Type 0) (stands : C → Option Files → Type 0) (kept c : C) (p : Plain) → Leaves past since (λ f. stands kept f ⊎ stands c f)
    → Leaves past since (StandsAlong stands kept (with_flush c p ∷ []))
Along-flush past since stands kept c p leaves =
    Leaves-then past past since (StandsAlong stands kept (with_flush c p ∷ [])) (λ f. stands kept f ⊎ stands c f) (Leaves-same past _) leaves (λ f either. along-either stands kept c p f either)

-- what a stop leaves behind all pieces, where the files go on to stand for the same
pub Along-behind : {C : Type 0} (past since : ℕ → Files → Type 0) (stands : C → Option Files → Type 0) (kept : C) (ps : List (Piece C)) → Leaves past since (stands (kept_behind kept ps))
    → Leaves past since (StandsAlong stands kept ps)
Along-behind past since stands kept ps leaves =
    Leaves-then past past since (StandsAlong stands kept ps) (stands (kept_behind kept ps)) (Leaves-same past _) leaves
    (λ f s. record { done = ps; left = []; are = sym (append-nil ps); files_stand = s })

-- ---- pieces that change no files, and behind them one that is a flush point

pub Finished-changed : {C : Type 0} (stands : C → Option Files → Type 0) (kept c : C) (ps : List Plain) (p : Plain) (before mid now : Option (List ℕ)) (f g : Option Files)
    → AllWritten ps before mid → stands kept f → Finished stands kept (with_flush c p ∷ []) mid now g → Finished stands kept (unflushed ps ++ with_flush c p ∷ []) before now g
Finished-changed stands kept c ps p before mid now f g a s b =
    Finished-then stands kept (unflushed ps) (with_flush c p ∷ []) before mid now f g (Finished-lifted stands kept ps before mid f a s)
    (subst (λ k. Finished stands k (with_flush c p ∷ []) mid now g) (sym (kept_same kept ps)) b)

pub by-changed : {C : Type 0} (e : CommandFault) (stands : C → Option Files → Type 0) (kept c : C) (ps : List Plain) (p : Plain) (before mid now : Option (List ℕ)) (f g : Option Files)
    → AllWritten ps before mid → stands kept f → IsBrokenBy e stands kept (with_flush c p ∷ []) mid now g → IsBrokenBy e stands kept (unflushed ps ++ with_flush c p ∷ []) before now g
by-changed e stands kept c ps p before mid now f g a s b =
    by-then e stands kept (unflushed ps) (with_flush c p ∷ []) before mid now f g (Finished-lifted stands kept ps before mid f a s)
    (subst (λ k. IsBrokenBy e stands k (with_flush c p ∷ []) mid now g) (sym (kept_same kept ps)) b)

-- the first of them are broken off, and the flush isn't begun
pub by-unchanged : {C : Type 0} (e : Fault) (stands : C → Option Files → Type 0) (kept c : C) (ps : List Plain) (p : Plain) (before now : Option (List ℕ)) (f : Option Files)
    → IsCut e ps before now → stands kept f → IsBrokenBy (of_items e) stands kept (unflushed ps ++ with_flush c p ∷ []) before now f
by-unchanged e stands kept c ps p before now f b s =
    by-more (of_items e) stands kept (unflushed ps) (with_flush c p ∷ []) before now f (by-items e stands kept (unflushed ps) before now f (broken-lifted e stands kept ps before now f b s))

pub Along-changed : {C : Type 0} (past since : ℕ → Files → Type 0) (stands : C → Option Files → Type 0) (kept c : C) (ps : List Plain) (p : Plain) → Leaves past since (StandsAlong stands kept (with_flush c p ∷ []))
    → Leaves past since (StandsAlong stands kept (unflushed ps ++ with_flush c p ∷ []))
Along-changed past since stands kept c ps p leaves =
    Along-then past past since stands kept (unflushed ps) (with_flush c p ∷ []) (Leaves-same past _) (subst (λ k. Leaves past since (StandsAlong stands k (with_flush c p ∷ []))) (sym (kept_same kept ps)) leaves)

or-false : (b : Bool) → (b || false) ≡ b
or-false true = refl
or-false false = refl

-- a flush refuses nothing
pub refused-changed : {C : Type 0} (c : C) (ps : List Plain) (p : Plain) → p.is_refusal ≡ false → some_refused {C = C} (unflushed ps ++ with_flush c p ∷ []) ≡ some_refused ps
refused-changed {C = C} c ps p told =
    refused-append {C = C} (unflushed ps) (with_flush c p ∷ []) ∙ ap (λ b. b || some_refused (with_flush c p ∷ [])) (refused_same C ps)
    ∙ ap (λ b. some_refused ps || (b || false)) told ∙ or-false (some_refused ps)
