-- A new repository is made and opened.
use Rattle.std.proofs.Common.{◌≡◌, ◌⊎◌, inl, inr, ℕ, true, false, List, [], ◌∷◌, Option, None, Some, Result, Ok, Err, IfErr, IsErrOf, refl, subst}
use Rattle.std.specs.Prelude.{is_some, not}
use Rattle.ri_base.specs.Faults.{IsOutside}
use Rattle.ri_base.specs.declared.seg_fault.SegFault.{SegFault}
use Rattle.ri_base.specs.declared.seg_fault.SegFault.TheVariants as files
use Rattle.store_ends.specs.Files.{Files, Leaves, OldOrNew}
use Rattle.command_pieces.specs.CommandFaults.{IsExistsFault, of_files}
use Rattle.command_pieces.specs.Pieces.{StandsAlong, kept_behind}
use Rattle.command_pieces.specs.declared.command_fault.CommandFault.{CommandFault}
use Rattle.command_pieces.specs.declared.command_fault.CommandFault.TheVariants as command
use Rattle.manifest.specs.Spelling.{manifest_text}
use Rattle.repository.specs.Names.{manifest_name}
use Rattle.repository.specs.Stands.{empty_collection, empty_manifest}
use Rattle.collection_commands.specs.Creation.{IsMade}
use Rattle.collection_commands.proofs.CreateLemmas.{made-either}
use Rattle.collection_commands.proofs.CauseLemmas.{as-causes, exists_causes, of-more}
use Rattle.indri_app.specs.Faults.{IsSilentFault, silent_causes}
use Rattle.indri_app.specs.Generated.{created}
use Rattle.indri_app.specs.Opened.{IsFileFault, file_causes}
use Rattle.indri_app.proofs.SilentPieces.{Leaves-into}

-- ---- faults

pub exists-of : (why : SegFault) → IsOutside why → IsExistsFault (of_files why)
exists-of (files.Malformed f p place) h = absurd h
exists-of (files.Missing f) h = absurd h
exists-of files.Store h = tt
exists-of files.Memory h = tt

pub not-exists : (why : SegFault) → of_files why ≡ command.Exists → ⊥
not-exists (files.Malformed f p place) e = absurd cc
not-exists (files.Missing f) e = absurd cc
not-exists files.Store e = absurd cc
not-exists files.Memory e = absurd cc

pub silent-of_exists : (why : CommandFault) → IsExistsFault why → IsSilentFault why
silent-of_exists why h = of-more exists_causes silent_causes refl why ((as-causes why).exists h)

pub silent-of_file : (why : CommandFault) → IsFileFault why → IsSilentFault why
silent-of_file = of-more file_causes silent_causes refl

pub file-err : {A : Type 0} (r : Result A CommandFault) → IfErr r IsFileFault → IsErrOf r command.Exists → ⊥
file-err r only is = subst (λ x. IfErr x IsFileFault) is only

pub silent-err : {A : Type 0} (r : Result A CommandFault) → IfErr r IsFileFault → IfErr r IsSilentFault
silent-err (Ok a) only = tt
silent-err (Err why) only = silent-of_file why only

-- ---- the files

-- the one piece of it is done, or none is
along-either : (f : Files) (told : Option Files) → IsMade (Some f) None told ⊎ IsMade (Some f) (Some empty_collection) told → StandsAlong (IsMade (Some f)) None (created ∷ []) told
unfolding kept_behind
along-either f told either = elim either [
  | inl old ↦ record { done = []; left = created ∷ []; are = refl; files_stand = old }
  | inr new ↦ record { done = created ∷ []; left = []; are = refl; files_stand = new }
]

module _ (f : Files) (before : Option Files) (is : before ≡ Some f) where
  pub along-step : (after : Option Files) → OldOrNew manifest_name (Some (manifest_text empty_manifest)) before after → StandsAlong (IsMade (Some f)) None (created ∷ []) after
  along-step after step = along-either f after (made-either f before after is step)

  pub along-stops : (past since : ℕ → Files → Type 0) → Leaves past since (OldOrNew manifest_name (Some (manifest_text empty_manifest)) before) → Leaves past since (StandsAlong (IsMade (Some f)) None (created ∷ []))
  along-stops past since leaves = Leaves-into past since (OldOrNew manifest_name (Some (manifest_text empty_manifest)) before) _ leaves along-step

-- a test whether there is a manifest says so
pub found-there : (o : Option (List ℕ)) → o ≡ None → false ≡ not (is_some o) → ⊥
found-there None e t = absurd cc
found-there (Some bytes) e t = absurd cc

pub there-found : (o : Option (List ℕ)) → false ≡ not (is_some o) → is_some o ≡ true
there-found None t = absurd cc
there-found (Some bytes) t = refl
