-- The one piece of `create`.
use Rattle.std.proofs.Common.{◌≡◌, ◌⊎◌, inl, inr, ℕ, true, false, List, [], ◌∷◌, Option, None, Some, refl, sym, ap, subst, ◌∙◌, append-nil}
use Rattle.std.specs.Io.KnownBytes.{append_known}
use Rattle.std.specs.Option.{option_map}
use Rattle.std.specs.Prelude.{codes, is_some, not, take}
use Rattle.ri_base.specs.declared.seg_fault.SegFault.{SegFault}
use Rattle.store_ends.specs.Files.{Files, Leaves, OldOrNew, with_file}
use Rattle.store_ends.proofs.Files.{Leaves-same, Leaves-then}
use Rattle.command_pieces.specs.CommandFaults.{IsBrokenBy, of_files, of_items}
use Rattle.command_pieces.specs.Pieces.{Finished, StandsAlong}
use Rattle.command_pieces.specs.Written.{AllWritten, Plain, told_piece, with_flush}
use Rattle.command_pieces.specs.declared.command_fault.CommandFault.{CommandFault}
use Rattle.command_pieces.specs.declared.command_fault.CommandFault.TheVariants as command
use Rattle.command_pieces.specs.declared.fault.Fault.{Fault}
use Rattle.command_pieces.specs.declared.fault.Fault.TheVariants as fault
use Rattle.command_pieces.proofs.Commands.{Along-flush, StoppedBetween-flush, by-files}
use Rattle.command_pieces.proofs.Lifting.{BrokenOff-flush, Finished-flush}
use Rattle.manifest.specs.Spelling.{manifest_text}
use Rattle.repository.specs.Names.{manifest_name}
use Rattle.repository.specs.Stands.{empty_collection, empty_manifest}
use Rattle.repository.proofs.ManifestLemmas.{Stands-made}
use Rattle.collection_commands.specs.Creation.{IsMade, create_pieces}

-- the manifest of a repository in which nothing is
abbrev empty_text : List ℕ
empty_text = manifest_text empty_manifest

abbrev created : Plain
created = told_piece (codes "created\n")

-- where it is there, an answer that it was made is right
pub found-there : (f : Files) → (f manifest_name).read ≡ None → false ≡ not (is_some (f manifest_name).read) → ⊥
found-there f none found =
    let made : not (is_some (f manifest_name).read) ≡ true = rw none refl in
    cc

module _ (f : Files) where
  made-new : (before now : Option Files) → before ≡ Some f → now ≡ option_map (with_file manifest_name (Some empty_text)) before → IsMade (Some f) (Some empty_collection) now
  made-new before now told new = λ limits real. Stands-made limits f now (new ∙ ap (λ (o : Option Files). option_map (with_file manifest_name (Some empty_text)) o) told)

  pub made-either : (before now : Option Files) → before ≡ Some f → OldOrNew manifest_name (Some empty_text) before now → IsMade (Some f) None now ⊎ IsMade (Some f) (Some empty_collection) now
  made-either before now told step = elim step [
    | inl old ↦ inl (old ∙ told)
    | inr new ↦ inr (made-new before now told new)
  ]

  pub create-stops : (past since : ℕ → Files → Type 0) (before : Option Files) → before ≡ Some f → Leaves past since (OldOrNew manifest_name (Some empty_text) before) → Leaves past since (StandsAlong (IsMade (Some f)) None create_pieces)
  create-stops past since before told leaves =
      Along-flush past since (IsMade (Some f)) None (Some empty_collection) created
      (Leaves-then past past since (λ g. IsMade (Some f) None g ⊎ IsMade (Some f) (Some empty_collection) g) (OldOrNew manifest_name (Some empty_text) before) (Leaves-same past _) leaves (λ g step. made-either before g told step))

  -- nothing is written
  pub create-refused : (e : SegFault) (r : CommandFault) (taken : Option (List ℕ)) (before now : Option Files) → r ≡ of_files e → before ≡ Some f → OldOrNew manifest_name (Some empty_text) before now
      → IsBrokenBy r (IsMade (Some f)) None create_pieces taken taken now
  create-refused e r taken before now is told step =
      subst (λ (x : CommandFault). IsBrokenBy x (IsMade (Some f)) None create_pieces taken taken now) (sym is)
      (by-files e (IsMade (Some f)) None create_pieces taken taken now (StoppedBetween-flush (IsMade (Some f)) None (Some empty_collection) created taken taken now refl (made-either before now told step)))

  pub create-unwritten : (taken : Option (List ℕ)) (before now : Option Files) → before ≡ Some f → OldOrNew manifest_name (Some empty_text) before now → IsBrokenBy command.Memory (IsMade (Some f)) None create_pieces taken taken now
  create-unwritten taken before now told step = StoppedBetween-flush (IsMade (Some f)) None (Some empty_collection) created taken taken now refl (made-either before now told step)

  -- it is made, and the piece is written
  pub create-told : (q : Plain) (before now : Option (List ℕ)) (old new : Option Files) → q ≡ created → AllWritten (q ∷ []) before now → old ≡ Some f → new ≡ option_map (with_file manifest_name (Some empty_text)) old
      → Finished (IsMade (Some f)) None create_pieces before now new
  create-told q before now old new is a told made =
      subst (λ (r : Plain). Finished (IsMade (Some f)) None (with_flush (Some empty_collection) r ∷ []) before now new) is
      (Finished-flush (IsMade (Some f)) None (Some empty_collection) q before now new (a.written ∙ ap (append_known before) (append-nil q.text)) (made-new old new told made))

  untold : (e : Fault) (q : Plain) (before now : Option (List ℕ)) (new : Option Files) → q ≡ created → IsMade (Some f) (Some empty_collection) new → (e ≡ fault.Read → ⊥)
      → (e ≡ fault.Write → (n : ℕ) × (now ≡ append_known before (take n q.text))) → (e ≡ fault.Memory → now ≡ before) → IsBrokenBy (of_items e) (IsMade (Some f)) None create_pieces before now new
  untold fault.Read q before now new is s unread front none = absurd (unread refl)
  untold fault.Write q before now new is s unread front none =
      let here = front refl in
      subst (λ (r : Plain). IsBrokenBy (of_items fault.Write) (IsMade (Some f)) None (with_flush (Some empty_collection) r ∷ []) before now new) is
      (BrokenOff-flush (IsMade (Some f)) None (Some empty_collection) q here.0 before now new here.1 s)
  untold fault.Memory q before now new is s unread front none = StoppedBetween-flush (IsMade (Some f)) None (Some empty_collection) created before now new (none refl) (inr s)

  -- it is made, and the piece isn't written
  pub create-untold : (e : Fault) (r : CommandFault) (q : Plain) (before now : Option (List ℕ)) (old new : Option Files) → r ≡ of_items e → q ≡ created → old ≡ Some f → new ≡ option_map (with_file manifest_name (Some empty_text)) old
      → (e ≡ fault.Read → ⊥) → (e ≡ fault.Write → (n : ℕ) × (now ≡ append_known before (take n q.text))) → (e ≡ fault.Memory → now ≡ before) → IsBrokenBy r (IsMade (Some f)) None create_pieces before now new
  create-untold e r q before now old new by is told made unread front none =
      subst (λ (x : CommandFault). IsBrokenBy x (IsMade (Some f)) None create_pieces before now new) (sym by) (untold e q before now new is (made-new old new told made) unread front none)
