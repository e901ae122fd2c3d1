-- A change of the files whose reply is written, and what stands behind it.
use Rattle.std.proofs.Common.{◌≡◌, ◌≤◌, ◌⊎◌, inl, inr, ℕ, List, [], ◌∷◌, Option, Some, refl, sym, ap, subst, ◌∙◌, append-nil}
use Rattle.std.specs.Io.KnownBytes.{append_known}
use Rattle.std.specs.Prelude.{take}
use Rattle.ri_base.specs.declared.seg_fault.SegFault.{SegFault}
use Rattle.store_ends.specs.Files.{Files, Leaves}
use Rattle.store_ends.proofs.Files.{Leaves-now, Leaves-same, Leaves-then, SameWhere-told}
use Rattle.command_pieces.specs.CommandFaults.{IsBrokenBy, of_files, of_items}
use Rattle.command_pieces.specs.Pieces.{Finished, StandsAlong}
use Rattle.command_pieces.specs.Written.{AllWritten, Plain, with_flush}
use Rattle.command_pieces.specs.declared.command_fault.CommandFault.{CommandFault}
use Rattle.command_pieces.specs.declared.command_fault.CommandFault.TheVariants as command
use Rattle.command_pieces.specs.declared.fault.Fault.{Fault}
use Rattle.command_pieces.specs.declared.fault.Fault.TheVariants as fault
use Rattle.command_pieces.proofs.Commands.{Along-flush, StoppedBetween-flush, by-files}
use Rattle.command_pieces.proofs.Joining.{StoppedBetween-all}
use Rattle.command_pieces.proofs.Lifting.{BrokenOff-flush, Finished-flush, flushed_by}
use Rattle.repository.specs.RealLimits.{StandsFor}
use Rattle.repository.specs.Stands.{Collection, Stands}
use Rattle.repository.specs.States.{IsBacked, ReadsAs, State}
use Rattle.repository.specs.Writes.{IsBeside, IsEither, Writes}
use Rattle.repository.proofs.RealLemmas.{either-for}
use Rattle.collection_commands.specs.Ahead.{IsAhead}

-- ---- what the files stand for once a call that writes has answered, whatever the answer, and at each moment

module _ {S : Type 0} (files : S → Option Files) (clock : S → ℕ) (since : S → ℕ → Files → Type 0) (own : ℕ → Type 0) (into : Collection → Collection) (s : State) (old new : S) (kept c : Collection) where
  either-now : ((t : ℕ) (f : Files) → t ≤ clock new → files new ≡ Some f → since new t f) → ((f : Files) → since old (clock old) f → files old ≡ Some f) → clock old ≤ clock new → Writes files since own into s old new
      → IsBacked (files old) s → Stands s.held.limits (files old) kept → ReadsAs (files old) s c → IsEither s.held.limits kept (into c) (files new)
  either-now honest still later writes backed stands reads =
      let told = SameWhere-told (IsBeside own) (files old) (files new) stands.has.files writes.others stands.has.is_told in
      let left = Leaves-now files clock since old new (IsEither s.held.limits kept (into c)) told.0 honest still later (writes.stops kept c backed stands reads) told.1 in
      subst (IsEither s.held.limits kept (into c)) (sym told.1) (elim left [
        | inl same ↦ inl (subst (λ (f : Option Files). Stands s.held.limits f kept) same stands)
        | inr either ↦ either
      ])

  pub ahead-now : ((t : ℕ) (f : Files) → t ≤ clock new → files new ≡ Some f → since new t f) → ((f : Files) → since old (clock old) f → files old ≡ Some f) → clock old ≤ clock new → Writes files since own into s old new
      → IsAhead (files old) s kept c → StandsFor kept (files new) ⊎ StandsFor (into c) (files new)
  ahead-now honest still later writes ahead =
      either-for s.held.limits kept (into c) (files new) ahead.real (either-now honest still later writes ahead.backed (ahead.stands s.held.limits ahead.real) ahead.reads)

  pub ahead-stops : Writes files since own into s old new → IsAhead (files old) s kept c → Leaves (since old) (since new) (λ f. StandsFor kept f ⊎ StandsFor (into c) f)
  ahead-stops writes ahead =
      Leaves-then (since old) (since old) (since new) (λ f. StandsFor kept f ⊎ StandsFor (into c) f) (IsEither s.held.limits kept (into c)) (Leaves-same (since old) _)
      (writes.stops kept c ahead.backed (ahead.stands s.held.limits ahead.real) ahead.reads) (λ f either. either-for s.held.limits kept (into c) f ahead.real either)

-- where both are the same
pub one-of : (c : Collection) (f : Option Files) → StandsFor c f ⊎ StandsFor c f → StandsFor c f
one-of c f either = elim either [ inl s ↦ s | inr s ↦ s ]

pub stops-one : (past since : ℕ → Files → Type 0) (c : Collection) → Leaves past since (λ f. StandsFor c f ⊎ StandsFor c f) → Leaves past since (StandsFor c)
stops-one past since c leaves = Leaves-then past past since (StandsFor c) (λ f. StandsFor c f ⊎ StandsFor c f) (Leaves-same past _) leaves (λ f either. one-of c f either)

-- ---- one piece, at which the files come to stand for a collection

module _ (kept c : Collection) (p : Plain) where
  pub flush-stops : (past since : ℕ → Files → Type 0) → Leaves past since (λ f. StandsFor kept f ⊎ StandsFor c f) → Leaves past since (StandsAlong StandsFor kept (with_flush c p ∷ []))
  flush-stops past since leaves = Along-flush past since StandsFor kept c p leaves

  -- the files weren't all changed, and nothing is written
  pub flush-refused : (e : SegFault) (r : CommandFault) (taken : Option (List ℕ)) (f : Option Files) → r ≡ of_files e → StandsFor kept f ⊎ StandsFor c f
      → IsBrokenBy r StandsFor kept (with_flush c p ∷ []) taken taken f
  flush-refused e r taken f is either =
      subst (λ (x : CommandFault). IsBrokenBy x StandsFor kept (with_flush c p ∷ []) taken taken f) (sym is)
      (by-files e StandsFor kept (with_flush c p ∷ []) taken taken f (StoppedBetween-flush StandsFor kept c p taken taken f refl either))

  -- memory is wanting, and nothing is written
  pub flush-unwritten : (taken : Option (List ℕ)) (f : Option Files) → StandsFor kept f ⊎ StandsFor c f → IsBrokenBy command.Memory StandsFor kept (with_flush c p ∷ []) taken taken f
  flush-unwritten taken f either = StoppedBetween-flush StandsFor kept c p taken taken f refl either

  -- the files stand for the collection, and the piece is written
  pub flush-told : (q : Plain) (before now : Option (List ℕ)) (f : Option Files) → q ≡ p → AllWritten (q ∷ []) before now → StandsFor c f → Finished StandsFor kept (with_flush c p ∷ []) before now f
  flush-told q before now f is a s =
      subst (λ (r : Plain). Finished StandsFor kept (with_flush c r ∷ []) before now f) is (Finished-flush StandsFor kept c q before now f (a.written ∙ ap (append_known before) (append-nil q.text)) s)

  untold : (e : Fault) (q : Plain) (before now : Option (List ℕ)) (f : Option Files) → q ≡ p → StandsFor c f → (e ≡ fault.Read → ⊥)
      → (e ≡ fault.Write → (n : ℕ) × (now ≡ append_known before (take n q.text))) → (e ≡ fault.Memory → now ≡ before) → IsBrokenBy (of_items e) StandsFor kept (with_flush c p ∷ []) before now f
  untold fault.Read q before now f is s unread front none = absurd (unread refl)
  untold fault.Write q before now f is s unread front none =
      let here = front refl in
      subst (λ (r : Plain). IsBrokenBy (of_items fault.Write) StandsFor kept (with_flush c r ∷ []) before now f) is (BrokenOff-flush StandsFor kept c q here.0 before now f here.1 s)
  untold fault.Memory q before now f is s unread front none = StoppedBetween-flush StandsFor kept c p before now f (none refl) (inr s)

  -- the files stand for the collection, and the piece isn't written
  pub flush-untold : (e : Fault) (r : CommandFault) (q : Plain) (before now : Option (List ℕ)) (f : Option Files) → r ≡ of_items e → q ≡ p → StandsFor c f → (e ≡ fault.Read → ⊥)
      → (e ≡ fault.Write → (n : ℕ) × (now ≡ append_known before (take n q.text))) → (e ≡ fault.Memory → now ≡ before) → IsBrokenBy r StandsFor kept (with_flush c p ∷ []) before now f
  flush-untold e r q before now f told is s unread front none =
      subst (λ (x : CommandFault). IsBrokenBy x StandsFor kept (with_flush c p ∷ []) before now f) (sym told) (untold e q before now f is s unread front none)

  -- ---- behind it the files are swept, and stand for the same

  pub swept : (before now : Option (List ℕ)) (f g : Option Files) → Finished StandsFor kept (with_flush c p ∷ []) before now f → StandsFor c g → Finished StandsFor kept (with_flush c p ∷ []) before now g
  swept before now f g a s = record { written = a.written; files_stand = subst (λ (k : Collection). StandsFor k g) (sym (flushed_by kept c p)) s }

  pub sweep-refused : (e : CommandFault) (before now : Option (List ℕ)) (f g : Option Files) → (e ≡ command.Store) ⊎ (e ≡ command.Memory) → Finished StandsFor kept (with_flush c p ∷ []) before now f → StandsFor c g
      → IsBrokenBy e StandsFor kept (with_flush c p ∷ []) before now g
  sweep-refused e before now f g which a s =
      let done = StoppedBetween-all StandsFor kept (with_flush c p ∷ []) before now g (swept before now f g a s) in
      elim which [
        | inl store ↦ subst (λ (x : CommandFault). IsBrokenBy x StandsFor kept (with_flush c p ∷ []) before now g) (sym store) done
        | inr memory ↦ subst (λ (x : CommandFault). IsBrokenBy x StandsFor kept (with_flush c p ∷ []) before now g) (sym memory) done
      ]

  pub swept-stops : (past mid since : ℕ → Files → Type 0) → Leaves past mid (StandsAlong StandsFor kept (with_flush c p ∷ [])) → Leaves mid since (StandsFor c) → Leaves past since (StandsAlong StandsFor kept (with_flush c p ∷ []))
  swept-stops past mid since first second =
      Leaves-then past mid since (StandsAlong StandsFor kept (with_flush c p ∷ [])) (StandsFor c) first second
      (λ g s. record { done = with_flush c p ∷ []; left = []; are = sym (append-nil (with_flush c p ∷ [])); files_stand = subst (λ (k : Collection). StandsFor k g) (sym (flushed_by kept c p)) s })
