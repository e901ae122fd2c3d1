-- What is written of a collection that is made.
use Rattle.std.proofs.Common.{◌≡◌, ◌≤◌, ◌∙◌, ◌++◌, ℕ, List, [], ◌∷◌, Option, None, Some, true, map, refl, sym, ap, subst}
use Rattle.std.specs.Prelude.{is_some}
use Rattle.store_ends.specs.Files.{Files, Leaves}
use Rattle.store_ends.proofs.Files.{Leaves-then}
use Rattle.smoothing.specs.declared.rule.RuleKind.{RuleKind}
use Rattle.command_pieces.specs.CommandFaults.{IsDamage, IsExistsFault, of_items}
use Rattle.command_pieces.specs.Faults.{IsCut}
use Rattle.command_pieces.specs.Pieces.{Finished, Piece, StandsAlong, kept_behind}
use Rattle.command_pieces.specs.Written.{AllWritten, Plain, told_piece, without_flush}
use Rattle.command_pieces.specs.declared.command_fault.CommandFault.{CommandFault}
use Rattle.command_pieces.specs.declared.command_fault.CommandFault.TheVariants as command
use Rattle.command_pieces.specs.declared.fault.Fault.{Fault}
use Rattle.command_pieces.specs.declared.fault.Fault.TheVariants as fault
use Rattle.command_pieces.proofs.Commands.{by-then}
use Rattle.command_pieces.proofs.Joining.{Finished-then, StoppedBetween-finished, StoppedBetween-more}
use Rattle.command_pieces.proofs.Lifting.{Finished-lifted, broken-lifted}
use Rattle.holdings.specs.declared.limits.Limits.{Limits}
use Rattle.repository.specs.RealLimits.{AreReal, StandsFor}
use Rattle.repository.specs.Stands.{Collection, empty_collection}
use Rattle.collection_commands.specs.Creation.{IsMade}
use Rattle.collection_commands.proofs.CauseLemmas.{of-more, undamaged-exists}
use Rattle.generated_events.specs.Documents.{kept_documents}
use Rattle.generated_events.specs.Events.{last_event}
use Rattle.generated_events.specs.declared.generator.TheConstants.{MAX_GENERATED}
use Rattle.desk.specs.State.{State}
use Rattle.desk.specs.Step.{step}
use Rattle.indri_app.specs.Faults.{IsGenFault, IsSilentFault, gen_causes, silent_causes}
use Rattle.indri_app.specs.Generated.{MakingPiece, created, gen_items, gen_pieces, made_state, new_state, silent, silent_pieces}
use Rattle.indri_app.specs.GeneratedTexts.{gen_text, summary_text, told_lines}
use Rattle.indri_app.specs.Generation.{IsGenBroken, IsGenerated, IsMadeWith, StandsSome, StopsSome}
use Rattle.indri_app.specs.Items.{pieces_of, state_behind_all}
use Rattle.indri_app.specs.Opened.{IsWant}
use Rattle.indri_app.specs.Sessions.{begun}
use Rattle.indri_app.proofs.Created.{are-real, real_limits}
use Rattle.indri_app.proofs.Ended.{damage-not_want}
use Rattle.indri_app.proofs.GeneratedLive.{made-live}
use Rattle.indri_app.proofs.SilentPieces.{Leaves-into, along-made, along-more, finished-silent, silent-text, stopped-silent}

-- ---- the text

pub text-made : (n : ℕ) (limits : Limits) (kind : RuleKind) (s : State) (text : List ℕ) → AreReal limits → n ≤ MAX_GENERATED → s ≡ begun limits kind empty_collection
    → text ≡ summary_text n (kept_documents n) ++ told_lines (step (state_behind_all s (gen_items n)) last_event).1 → text ≡ gen_text n (state_behind_all (begun limits kind empty_collection) (gen_items n))
text-made n limits kind s text real few is made =
    let behind = state_behind_all (begun limits kind empty_collection) (gen_items n) in
    made ∙ ap (λ t. summary_text n (kept_documents n) ++ told_lines (step (state_behind_all t (gen_items n)) last_event).1) is
    ∙ ap (λ ds. summary_text n ds ++ told_lines (step behind last_event).1) (sym (made-live n limits kind real few))

-- ---- faults

pub gen-of_silent : (why : CommandFault) → IsSilentFault why → IsGenFault why
gen-of_silent = of-more silent_causes gen_causes refl

pub gen-of_items : (e : Fault) → (e ≡ fault.Read → ⊥) → IsGenFault (of_items e)
gen-of_items fault.Read unread = unread refl
gen-of_items fault.Write unread = tt
gen-of_items fault.Memory unread = tt

pub silent-not_write : (why : CommandFault) → IsSilentFault why → why ≡ command.Write → ⊥
silent-not_write why h e = subst IsSilentFault e h

pub items-not_exists : (e : Fault) → of_items e ≡ command.Exists → ⊥
items-not_exists fault.Read e = absurd cc
items-not_exists fault.Write e = absurd cc
items-not_exists fault.Memory e = absurd cc

pub items-not_store : (e : Fault) → of_items e ≡ command.Store → ⊥
items-not_store fault.Read e = absurd cc
items-not_store fault.Write e = absurd cc
items-not_store fault.Memory e = absurd cc

pub write-of_items : (e : Fault) → of_items e ≡ command.Write → e ≡ fault.Write
write-of_items fault.Read e = absurd cc
write-of_items fault.Write e = refl
write-of_items fault.Memory e = absurd cc

-- whether there is a manifest or none
pub either-undamaged : (o : Option (List ℕ)) (why : CommandFault) → (o ≡ None → IsWant why) → (is_some o ≡ true → IsExistsFault why) → IsDamage why → ⊥
either-undamaged None why want exists d = damage-not_want why d (want refl)
either-undamaged (Some bytes) why want exists d = undamaged-exists why (exists refl) d

-- ---- the files

-- what comes last
abbrev last : ℕ → Limits → MakingPiece
last n limits = without_flush (told_piece (gen_text n (made_state n limits)))

abbrev items_done : ℕ → Limits → List (Piece Collection)
items_done n limits = pieces_of (new_state limits) (gen_items n)

module _ (n : ℕ) (files : Files) (past mid : ℕ → Files → Type 0) where
  -- the repository isn't made to its end
  pub stands-created : (told : Option Files) → StandsAlong (IsMade (Some files)) None (created ∷ []) told → StandsSome n files told
  stands-created told a = (real_limits, are-real, along-more files (created ∷ []) (map silent (items_done n real_limits)) told a)

  created-all : (limits : Limits) → Leaves past mid (StandsAlong (IsMade (Some files)) None (created ∷ [])) → Leaves past mid (StandsAlong (IsMade (Some files)) None (gen_pieces n limits))
  created-all limits leaves =
      Leaves-into past mid (StandsAlong (IsMade (Some files)) None (created ∷ [])) (StandsAlong (IsMade (Some files)) None (gen_pieces n limits)) leaves
      (along-more files (created ∷ []) (map silent (items_done n limits) ++ last n limits ∷ []))

  pub stops-created : Leaves past mid (StandsAlong (IsMade (Some files)) None (created ∷ [])) → StopsSome n files past mid
  stops-created leaves = (gen_pieces n real_limits, (real_limits, are-real, refl), created-all real_limits leaves)

  module _ (limits : Limits) (real : AreReal limits) where
    -- it is filled
    pub stands-filled : (told : Option Files) → StandsAlong StandsFor empty_collection (items_done n limits) told → StandsSome n files told
    stands-filled told a = (limits, real, along-made files (items_done n limits) told a)

    pub stops-filled : (since : ℕ → Files → Type 0) → Leaves past mid (StandsAlong (IsMade (Some files)) None (created ∷ [])) → Leaves mid since (StandsAlong StandsFor empty_collection (items_done n limits)) → StopsSome n files past since
    stops-filled since before leaves = (
      gen_pieces n limits,
      (limits, real, refl),
      Leaves-then past mid since (StandsAlong (IsMade (Some files)) None (gen_pieces n limits)) (StandsAlong StandsFor empty_collection (items_done n limits)) (created-all limits before) leaves
          (λ f a. along-more files (silent_pieces n limits) (last n limits ∷ []) f (along-made files (items_done n limits) f a)),
    )

-- ---- it isn't made

stopped-some : (n : ℕ) (files : Files) (taken : Option (List ℕ)) (told : Option Files) → StandsSome n files told → IsGenBroken command.Memory n files taken taken told
stopped-some n files taken told (limits, real, along) = (
  gen_pieces n limits,
  (limits, real, refl),
  StoppedBetween-more (IsMade (Some files)) None (silent_pieces n limits) (last n limits ∷ []) taken taken told
      (stopped-silent (IsMade (Some files)) None (silent_pieces n limits) (silent-text n limits) taken taken told refl along),
)

pub made-broken : (why : CommandFault) (n : ℕ) (files : Files) (taken : Option (List ℕ)) (told : Option Files) → IsWant why → StandsSome n files told → IsGenBroken why n files taken taken told
made-broken command.Read n files taken told h some = absurd h
made-broken command.Write n files taken told h some = absurd h
made-broken command.Store n files taken told h some = stopped-some n files taken told some
made-broken (command.Malformed f p place) n files taken told h some = absurd h
made-broken (command.Missing f) n files taken told h some = absurd h
made-broken command.NoRepository n files taken told h some = absurd h
made-broken command.Exists n files taken told h some = absurd h
made-broken command.Memory n files taken told h some = stopped-some n files taken told some

-- ---- it is made

module _ (n : ℕ) (files : Files) (text : List ℕ) (told : Option Files) (made : IsMadeWith n files text told) where
  abbrev written : Plain
  written = told_piece (gen_text n (made_state n made.limits))

  written-is : (q : Plain) → q ≡ told_piece text → q ≡ written
  written-is q is = is ∙ ap told_piece made.text_is

  silent-finished : (before now : Option (List ℕ)) → now ≡ before → Finished (IsMade (Some files)) None (silent_pieces n made.limits) before now told
  silent-finished before now same = finished-silent (IsMade (Some files)) None (silent_pieces n made.limits) (silent-text n made.limits) before now told same made.files_stand

  pub gen-finished : (q : Plain) (before now : Option (List ℕ)) → q ≡ told_piece text → AllWritten (q ∷ []) before now → IsGenerated n files before now told
  gen-finished q before now is all =
      let one : AllWritten (written ∷ []) before now = subst (λ (p : Plain). AllWritten (p ∷ []) before now) (written-is q is) all in (
        gen_pieces n made.limits,
        (made.limits, made.real, refl),
        Finished-then (IsMade (Some files)) None (silent_pieces n made.limits) (last n made.limits ∷ []) before before now told told (silent-finished before before refl)
            (Finished-lifted (IsMade (Some files)) (kept_behind None (silent_pieces n made.limits)) (written ∷ []) before now told one made.files_stand),
      )

  unwritten : (e : Fault) (before now : Option (List ℕ)) → IsCut e (written ∷ []) before now → (e ≡ fault.Read → ⊥) → (e ≡ fault.Memory → now ≡ before) → IsGenBroken (of_items e) n files before now told
  unwritten fault.Read before now cut unread none = absurd (unread refl)
  unwritten fault.Write before now cut unread none = (
    gen_pieces n made.limits,
    (made.limits, made.real, refl),
    by-then command.Write (IsMade (Some files)) None (silent_pieces n made.limits) (last n made.limits ∷ []) before before now told told (silent-finished before before refl)
        (broken-lifted fault.Write (IsMade (Some files)) (kept_behind None (silent_pieces n made.limits)) (written ∷ []) before now told cut made.files_stand),
  )
  unwritten fault.Memory before now cut unread none = (
    gen_pieces n made.limits,
    (made.limits, made.real, refl),
    StoppedBetween-finished (IsMade (Some files)) None (silent_pieces n made.limits) (last n made.limits ∷ []) before now told (silent-finished before now (none refl)),
  )

  pub gen-broken : (e : Fault) (r : CommandFault) (q : Plain) (before now : Option (List ℕ)) → r ≡ of_items e → q ≡ told_piece text → IsCut e (q ∷ []) before now → (e ≡ fault.Read → ⊥) → (e ≡ fault.Memory → now ≡ before)
      → IsGenBroken r n files before now told
  gen-broken e r q before now by is cut unread none =
      subst (λ (x : CommandFault). IsGenBroken x n files before now told) (sym by) (unwritten e before now (subst (λ (p : Plain). IsCut e (p ∷ []) before now) (written-is q is) cut) unread none)
