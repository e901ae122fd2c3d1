-- One item as a piece.
use Rattle.std.proofs.Common.{◌≡◌, ◌⊎◌, inl, inr, ℕ, List, [], ◌∷◌, ◌++◌, refl, ap, sym, ◌∙◌, subst, Option, Some, None, append-nil, append_assoc}
use Rattle.std.specs.Prelude.{IfSome, OnOk, Result, Ok, Err, take, unwrap_or}
use Rattle.std.specs.Io.KnownBytes.{append_known}
use Rattle.ri_base.specs.Faults.{IsOutside}
use Rattle.ri_base.specs.declared.seg_fault.SegFault.{SegFault}
use Rattle.ri_base.specs.declared.seg_fault.SegFault.TheVariants as files
use Rattle.store_ends.specs.Files.{Files, Leaves}
use Rattle.store_ends.proofs.Files.{Leaves-same, Leaves-then}
use Rattle.command_pieces.specs.CommandFaults.{IsBrokenBy, IsDamage, of_files, of_items}
use Rattle.command_pieces.specs.Pieces.{Finished, Piece, StandsAlong, StoppedBetween, WritesFront, kept_behind, text_of}
use Rattle.command_pieces.specs.Written.{AllWritten, Plain}
use Rattle.command_pieces.specs.declared.command_fault.CommandFault.{CommandFault}
use Rattle.command_pieces.specs.declared.fault.Fault.{Fault}
use Rattle.command_pieces.specs.declared.fault.Fault.TheVariants as fault
use Rattle.command_pieces.proofs.Commands.{by-files}
use Rattle.command_pieces.proofs.Joining.{BrokenOff-one, Finished-one, append_none}
use Rattle.repository.specs.RealLimits.{StandsFor}
use Rattle.repository.specs.Stands.{Collection}
use Rattle.script_reader.specs.declared.item.Item.{Item}
use Rattle.desk.specs.State.{State}
use Rattle.collection_commands.proofs.CauseLemmas.{of-more}
use Rattle.collection_commands.specs.Merging.{merge_causes}
use Rattle.indri_app.specs.Faults.{IsItemFault, IsSessionFault, session_causes}
use Rattle.indri_app.specs.Items.{item_piece, item_reply, kept_by}
use Rattle.indri_app.specs.Opened.{file_causes}
use Rattle.indri_app.specs.Sessions.{Grows}
use Rattle.indri_app.proofs.OpeningLemmas.{file-of}

behind-one : (kept : Collection) (p : Piece Collection) → unwrap_or p.flushes kept ≡ kept_behind kept (p ∷ [])
unfolding kept_behind
behind-one kept p = refl

module _ (kept : Collection) (s : State) (i : Item) where
  -- it is done
  pub piece-done : (reply : Plain) (before now : Option (List ℕ)) (f : Option Files) → reply ≡ item_reply s i → AllWritten (reply ∷ []) before now → StandsFor (kept_by kept s i) f → Finished StandsFor kept (item_piece s i ∷ []) before now f
  piece-done reply before now f is a stands =
      Finished-one StandsFor kept (item_piece s i) before now f
      (a.written ∙ ap (append_known before) (append-nil reply.text ∙ ap (λ (p : Plain). p.text) is))
      (subst (λ k. StandsFor k f) (behind-one kept (item_piece s i)) stands)

  -- nothing of it is written
  pub piece-stopped : (before now : Option (List ℕ)) (f : Option Files) → now ≡ before → StandsFor kept f ⊎ StandsFor (kept_by kept s i) f → StoppedBetween StandsFor kept (item_piece s i ∷ []) before now f
  unfolding kept_behind
  piece-stopped before now f e either = record { done = []; left = item_piece s i ∷ []; are = refl; written = e ∙ sym (append_none before); files_stand = either }

  -- a file isn't read or written
  pub piece-refused : (e : SegFault) (before now : Option (List ℕ)) (f : Option Files) → now ≡ before → StandsFor kept f ⊎ StandsFor (kept_by kept s i) f
      → IsBrokenBy (of_files e) StandsFor kept (item_piece s i ∷ []) before now f
  piece-refused e before now f same either = by-files e StandsFor kept (item_piece s i ∷ []) before now f (piece-stopped before now f same either)

  -- it isn't written
  pub piece-unwritten : (e : Fault) (reply : Plain) (before now : Option (List ℕ)) (f : Option Files) → reply ≡ item_reply s i → (e ≡ fault.Read → ⊥) → (e ≡ fault.Write → WritesFront before now reply.text) → (e ≡ fault.Memory → now ≡ before)
      → StandsFor (kept_by kept s i) f → IsBrokenBy (of_items e) StandsFor kept (item_piece s i ∷ []) before now f
  piece-unwritten fault.Read reply before now f is read write memory stands = absurd (read refl)
  piece-unwritten fault.Write reply before now f is read write memory stands =
      let front = write refl in
      BrokenOff-one StandsFor kept (item_piece s i) reply.text front.0 before now f (ap (λ (p : Plain). p.text) is) front.1 (subst (λ k. StandsFor k f) (behind-one kept (item_piece s i)) stands)
  piece-unwritten fault.Memory reply before now f is read write memory stands = piece-stopped before now f (memory refl) (inr stands)

  along-one : (f : Option Files) → StandsFor kept f ⊎ StandsFor (kept_by kept s i) f → StandsAlong StandsFor kept (item_piece s i ∷ []) f
  unfolding kept_behind
  along-one f either = elim either [
    | inl old ↦ record { done = []; left = item_piece s i ∷ []; are = refl; files_stand = old }
    | inr new ↦ record { done = item_piece s i ∷ []; left = []; are = refl; files_stand = new }
  ]

  -- what a stop leaves within it
  pub piece-stops : (past since : ℕ → Files → Type 0) → Leaves past since (λ f. StandsFor kept f ⊎ StandsFor (kept_by kept s i) f) → Leaves past since (StandsAlong StandsFor kept (item_piece s i ∷ []))
  piece-stops past since leaves =
      Leaves-then past past since (StandsAlong StandsFor kept (item_piece s i ∷ [])) (λ f. StandsFor kept f ⊎ StandsFor (kept_by kept s i) f) (Leaves-same past _) leaves (λ f either. along-one f either)

-- ---- what is written, whatever the files are

pub grows-none : (before now : Option (List ℕ)) → now ≡ before → Grows before now
grows-none before now e = ([], e ∙ sym (append_none before))

pub grows-all : (p : Plain) (before now : Option (List ℕ)) → AllWritten (p ∷ []) before now → Grows before now
grows-all p before now a = (text_of (p ∷ []), a.written)

append-twice : (taken : Option (List ℕ)) (a b : List ℕ) → append_known (append_known taken a) b ≡ append_known taken (a ++ b)
append-twice None a b = refl
append-twice (Some xs) a b = ap Some (append_assoc xs a b)

pub grows-then : (before mid now : Option (List ℕ)) → Grows before mid → Grows mid now → Grows before now
grows-then before mid now a b = (a.0 ++ b.0, b.1 ∙ ap (λ t. append_known t b.0) a.1 ∙ append-twice before a.0 b.0)

pub grows-unwritten : (e : Fault) (p : Plain) (before now : Option (List ℕ)) → (e ≡ fault.Read → ⊥) → (e ≡ fault.Write → WritesFront before now p.text) → (e ≡ fault.Memory → now ≡ before) → Grows before now
grows-unwritten fault.Read p before now read write memory = absurd (read refl)
grows-unwritten fault.Write p before now read write memory = let front = write refl in (take front.0 p.text, front.1)
grows-unwritten fault.Memory p before now read write memory = grows-none before now (memory refl)

-- ---- which faults there are

pub files-only : (e : SegFault) → IsItemFault (of_files e)
files-only e = of-more file_causes merge_causes refl (of_files e) (file-of e)

pub items-only : (e : Fault) → (e ≡ fault.Read → ⊥) → IsItemFault (of_items e)
items-only fault.Read read = absurd (read refl)
items-only fault.Write read = tt
items-only fault.Memory read = tt

pub item-only : (e : CommandFault) → IsItemFault e → IsSessionFault e
item-only = of-more merge_causes session_causes refl

-- ---- no file is to blame

pub outside-honest : (e : SegFault) → IsOutside e → IsDamage (of_files e) → ⊥
outside-honest (files.Malformed file part place) outside damage = outside
outside-honest (files.Missing file) outside damage = outside
outside-honest files.Store outside damage = damage
outside-honest files.Memory outside damage = damage

pub items-undamaged : (e : Fault) → IsDamage (of_items e) → ⊥
items-undamaged fault.Read d = d
items-undamaged fault.Write d = d
items-undamaged fault.Memory d = d

-- ---- results

pub on-ok : {A E : Type 0} (r : Result A E) (P : Type 0) → P → OnOk r P
on-ok (Ok x) P p = p
on-ok (Err e) P p = tt

pub if-all : (left : Option (List ℕ)) (P : List ℕ → Type 0) → ((bytes : List ℕ) → P bytes) → IfSome left (λ bytes. P bytes)
if-all None P all = tt
if-all (Some bytes) P all = all bytes
