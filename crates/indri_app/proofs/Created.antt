-- A run of a command that makes a repository.
use Rattle.std.proofs.Common.{◌≡◌, ◌≤◌, inl, inr, ℕ, List, [], Option, None, Some, refl, sym, subst, true, ◌∙◌, arith}
use Rattle.std.specs.Prelude.{is_some}
use Rattle.std.specs.Option.{IfSome}
use Rattle.ri_base.specs.declared.limits.TheConstants.{MAX_HELD_TOKENS, MAX_PART_DOCS}
use Rattle.store_ends.specs.Files.{Files}
use Rattle.store_ends.proofs.Files.{Leaves-same}
use Rattle.command_words.specs.Table.{Asks, add, create, delete, explain, gen, merge, prior, query, scan, session}
use Rattle.command_pieces.specs.CommandFaults.{IsBrokenBy, IsDamage, IsExistsFault}
use Rattle.command_pieces.specs.Pieces.{BrokenOff, StandsAlong, StoppedBetween}
use Rattle.command_pieces.specs.declared.command_fault.CommandFault.{CommandFault}
use Rattle.command_pieces.specs.declared.command_fault.CommandFault.TheVariants as fault
use Rattle.command_pieces.proofs.Ending.{with-line}
use Rattle.command_pieces.proofs.Joining.{StoppedBetween-none}
use Rattle.disk_index.specs.declared.limits.TheConstants.{MAX_HELD_DOCS}
use Rattle.holdings.specs.declared.limits.Limits.{Limits}
use Rattle.repository.specs.Names.{manifest_name}
use Rattle.repository.specs.RealLimits.{AreReal, StandsFor}
use Rattle.repository.specs.Stands.{Collection}
use Rattle.collection_commands.specs.Creation.{IsMade, create_pieces}
use Rattle.indri_app.specs.Command.{AreMakingPieces, MakesRepository}
use Rattle.indri_app.specs.Generated.{MakingPiece, gen_pieces}
use Rattle.indri_app.specs.LastLines.{IsClosed, exists_line, store_line}
use Rattle.indri_app.specs.Runs.{IsExistsStatus, MakesAlong, MakesTo, RunsTo}
use Rattle.indri_app.specs.declared.status.Status.{Status}
use Rattle.indri_app.specs.declared.status.Status.TheVariants as status
use Rattle.indri_app.proofs.Closing.{as-status, closed}
use Rattle.indri_app.proofs.Ended.{line-first}

abbrev pub real_limits : Limits
real_limits = record { part_docs = MAX_PART_DOCS; held_docs = MAX_HELD_DOCS; held_tokens = MAX_HELD_TOKENS; some = omega arith; part_fits = omega arith; docs_fit = omega arith; tokens_fit = omega arith }

pub are-real : AreReal real_limits
are-real = record { part_docs = refl; held_docs = refl; held_tokens = refl }

-- files that stand for a collection have a manifest
pub stands-there : (c : Collection) (told : Option Files) → StandsFor c told → (f : Files) × (told ≡ Some f) × (is_some (f manifest_name).read ≡ true)
stands-there c told stands =
    let has = (stands real_limits are-real).has in
    let file = has.file in
    (has.files, has.is_told, rw file refl)

-- ---- there is a manifest

exists-runs-one : (asks : Asks) → MakesRepository asks → (why : CommandFault) (s : Status) (c : Collection) (bytes : List ℕ) (told files : Option Files) (start mid now : Option (List ℕ)) (a b z : ℕ) → IsExistsFault why → IsClosed why s mid now b z → mid ≡ start → a ≤ b → files ≡ told → StandsFor c told
    → RunsTo s told asks c bytes start now files a z
exists-runs-one asks makes fault.Read s c bytes told files start mid now a b z can ends e h same stands = absurd can
exists-runs-one asks makes fault.Write s c bytes told files start mid now a b z can ends e h same stands = absurd can
exists-runs-one asks makes fault.Store s c bytes told files start mid now a b z can ends e h same stands = closed told asks c bytes start files a z fault.Store s [] mid now b h (inl refl) (StoppedBetween-none StandsFor c [] start mid files e (subst (λ t. StandsFor c t) (sym same) stands)) ends
exists-runs-one asks makes (fault.Malformed f p place) s c bytes told files start mid now a b z can ends e h same stands = absurd can
exists-runs-one asks makes (fault.Missing f) s c bytes told files start mid now a b z can ends e h same stands = absurd can
exists-runs-one asks makes fault.NoRepository s c bytes told files start mid now a b z can ends e h same stands = absurd can
exists-runs-one asks makes fault.Exists s c bytes told files start mid now a b z can ends e h same stands = elim ends [
  | inl (w, l) ↦ as-status told asks c bytes start files a z s status.Exists now w (makes, line-first exists_line start mid now a b z e h l, same)
  | inr (w, still) ↦ as-status told asks c bytes start files a z s status.Memory now w ([], inl refl, StoppedBetween-none StandsFor c [] start now files (still ∙ e) (subst (λ t. StandsFor c t) (sym same) stands))
]
exists-runs-one asks makes fault.Memory s c bytes told files start mid now a b z can ends e h same stands = closed told asks c bytes start files a z fault.Memory s [] mid now b h (inl refl) (StoppedBetween-none StandsFor c [] start mid files e (subst (λ t. StandsFor c t) (sym same) stands)) ends

pub exists-runs : (asks : Asks) → MakesRepository asks → (why : CommandFault) (s : Status) (c : Collection) (left : Option (List ℕ)) (told files : Option Files) (start mid now : Option (List ℕ)) (a b z : ℕ) → IsExistsFault why → IsClosed why s mid now b z → mid ≡ start → a ≤ b → files ≡ told → StandsFor c told
    → IfSome left (λ bytes. RunsTo s told asks c bytes start now files a z)
exists-runs asks makes why s c None told files start mid now a b z can ends e h same stands = tt
exists-runs asks makes why s c (Some bytes) told files start mid now a b z can ends e h same stands = exists-runs-one asks makes why s c bytes told files start mid now a b z can ends e h same stands

pub exists-closed-status : (why : CommandFault) (s : Status) (mid now : Option (List ℕ)) (b z : ℕ) → IsExistsFault why → IsClosed why s mid now b z → IsExistsStatus s
exists-closed-status fault.Read s mid now b z can ends = absurd can
exists-closed-status fault.Write s mid now b z can ends = absurd can
exists-closed-status fault.Store s mid now b z can ends = elim ends [ inl h ↦ inr (inl h.0) | inr h ↦ inr (inr h.0) ]
exists-closed-status (fault.Malformed f p place) s mid now b z can ends = absurd can
exists-closed-status (fault.Missing f) s mid now b z can ends = absurd can
exists-closed-status fault.NoRepository s mid now b z can ends = absurd can
exists-closed-status fault.Exists s mid now b z can ends = elim ends [ inl h ↦ inl h.0 | inr h ↦ inr (inr h.0) ]
exists-closed-status fault.Memory s mid now b z can ends = inr (inr ends.0)

-- ---- there is none

module _ (asks : Asks) (f : Files) (pieces : List MakingPiece) (are : AreMakingPieces asks pieces) (start : Option (List ℕ)) (files : Option Files) (a z : ℕ) where
  as-made : (s t : Status) (now : Option (List ℕ)) → s ≡ t → MakesTo t asks (Some f) start now files a z → MakesTo s asks (Some f) start now files a z
  as-made s t now e m = subst (λ u. MakesTo u asks (Some f) start now files a z) (sym e) m

  pub made-closed : (why : CommandFault) (s : Status) (mid now : Option (List ℕ)) (b : ℕ) → a ≤ b → (why ≡ fault.Read → ⊥) → (IsDamage why → ⊥) → IsBrokenBy why (IsMade (Some f)) None pieces start mid files → IsClosed why s mid now b z → MakesTo s asks (Some f) start now files a z
  made-closed fault.Read s mid now b h unread undamaged broken ends = absurd (unread refl)
  made-closed fault.Write s mid now b h unread undamaged broken (e, same) = as-made s status.WriteFault now e (pieces, are, subst (λ t. BrokenOff (IsMade (Some f)) None pieces start t files) (sym same) broken)
  made-closed fault.Store s mid now b h unread undamaged broken ends = elim ends [
    | inl (e, l) ↦ as-made s status.StoreFault now e (pieces, are, with-line store_line (IsMade (Some f)) None pieces start mid now files a b z h broken l)
    | inr (e, same) ↦ as-made s status.Memory now e (pieces, are, subst (λ t. StoppedBetween (IsMade (Some f)) None pieces start t files) (sym same) broken)
  ]
  made-closed (fault.Malformed x p place) s mid now b h unread undamaged broken ends = absurd (undamaged tt)
  made-closed (fault.Missing x) s mid now b h unread undamaged broken ends = absurd (undamaged tt)
  made-closed fault.NoRepository s mid now b h unread undamaged broken ends = absurd broken
  made-closed fault.Exists s mid now b h unread undamaged broken ends = absurd broken
  made-closed fault.Memory s mid now b h unread undamaged broken (e, same) = as-made s status.Memory now e (pieces, are, subst (λ t. StoppedBetween (IsMade (Some f)) None pieces start t files) (sym same) broken)

-- nothing is begun of it
some-pieces : (asks : Asks) → MakesRepository asks → (pieces : List MakingPiece) × AreMakingPieces asks pieces
some-pieces (scan text) makes = absurd makes
some-pieces create makes = (create_pieces, refl)
some-pieces add makes = absurd makes
some-pieces delete makes = absurd makes
some-pieces merge makes = absurd makes
some-pieces (prior name) makes = absurd makes
some-pieces (session mu) makes = absurd makes
some-pieces (gen count) makes = (gen_pieces count real_limits, (real_limits, are-real, refl))
some-pieces (query question) makes = absurd makes
some-pieces (explain rank question) makes = absurd makes

module _ (asks : Asks) (f : Files) (makes : MakesRepository asks) where
  pub memory-makes : (told : Option Files) (before : Option (List ℕ)) (a z : ℕ) → told ≡ Some f → MakesTo status.Memory asks (Some f) before before told a z
  memory-makes told before a z same =
      let some = some-pieces asks makes in
      (some.0, some.1, StoppedBetween-none (IsMade (Some f)) None some.0 before before told refl same)

  pub none-makes : (past : ℕ → Files → Type 0) → MakesAlong asks (Some f) past past
  none-makes past =
      let some = some-pieces asks makes in
      (some.0, some.1, Leaves-same past (StandsAlong (IsMade (Some f)) None some.0))
