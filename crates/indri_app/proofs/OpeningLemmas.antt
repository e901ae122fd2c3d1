-- The opening of a repository, told of a command.
use Rattle.std.proofs.Common.{◌≡◌, ℕ, true, false, List, Option, None, Some, sym, ◌∙◌, refl, ap}
use Rattle.std.specs.Prelude.{is_some}
use Rattle.ri_base.specs.Faults.{IsOutside}
use Rattle.ri_base.specs.declared.seg_fault.SegFault.{SegFault}
use Rattle.ri_base.specs.declared.seg_fault.SegFault.TheVariants as files
use Rattle.store_ends.specs.Files.{Files}
use Rattle.command_pieces.specs.CommandFaults.{of_files}
use Rattle.command_pieces.specs.declared.command_fault.CommandFault.{CommandFault}
use Rattle.command_pieces.specs.declared.command_fault.CommandFault.TheVariants as fault
use Rattle.holdings.specs.declared.limits.Limits.{Limits}
use Rattle.manifest.specs.declared.manifest.Manifest.{Manifest}
use Rattle.repository.specs.Names.{manifest_name}
use Rattle.repository.specs.Opening.{IsOpeningFault, of_all, of_entry, of_manifest, of_outside}
use Rattle.repository.specs.Stands.{IsManifestRead}
use Rattle.collection_commands.proofs.CauseLemmas.{of-more}
use Rattle.indri_app.specs.Opened.{IsAbsentFault, IsFileFault, IsOpenFault, IsWant, absent_causes, file_causes, open_causes, want_causes}

pub want-of : (why : SegFault) → IsOutside why → IsWant (of_files why)
want-of (files.Malformed f p place) h = absurd h
want-of (files.Missing f) h = absurd h
want-of files.Store h = tt
want-of files.Memory h = tt

absent-of : (why : SegFault) → IsOutside why → IsAbsentFault (of_files why)
absent-of why h = of-more want_causes absent_causes refl (of_files why) (want-of why h)

pub file-want : (why : CommandFault) → IsWant why → IsFileFault why
file-want = of-more want_causes file_causes refl

pub file-of : (why : SegFault) → IsFileFault (of_files why)
file-of (files.Malformed f p place) = tt
file-of (files.Missing f) = tt
file-of files.Store = tt
file-of files.Memory = tt

pub open-of : (why : SegFault) → IsOpenFault (of_files why)
open-of why = of-more file_causes open_causes refl (of_files why) (file-of why)

pub store-of_files : (why : SegFault) → of_files why ≡ fault.Store → why ≡ files.Store
store-of_files (files.Malformed f p place) e = absurd cc
store-of_files (files.Missing f) e = absurd cc
store-of_files files.Store e = refl
store-of_files files.Memory e = absurd cc

pub not-absent : (why : SegFault) → of_files why ≡ fault.NoRepository → ⊥
not-absent (files.Malformed f p place) e = absurd cc
not-absent (files.Missing f) e = absurd cc
not-absent files.Store e = absurd cc
not-absent files.Memory e = absurd cc

-- a manifest that is there isn't absent
has-none : (f : Files) (list : Manifest) → (f manifest_name).read ≡ None → IsManifestRead (Some f) list → ⊥
has-none f list none has = let e : Some f ≡ Some has.files = has.is_told in let file = has.file in let one : f ≡ has.files = cc in let here : (has.files manifest_name).read ≡ None = sym (ap (λ (g : Files). (g manifest_name).read) one) ∙ none in absurd cc

outside-without : (f : Files) (limits : Limits) (why : SegFault) → (f manifest_name).read ≡ None → IsOpeningFault f limits why → IsOutside why
outside-without f limits why none (of_outside h) = h
outside-without f limits why none (of_manifest (bytes, there, answers)) = absurd cc
outside-without f limits why none (of_entry list has entry) = absurd (has-none f list none has)
outside-without f limits why none (of_all list has across) = absurd (has-none f list none has)

-- where there is no manifest
pub absent-opening : (f : Files) (limits : Limits) (why : SegFault) → (f manifest_name).read ≡ None → IsOpeningFault f limits why → IsAbsentFault (of_files why)
absent-opening f limits why none h = absent-of why (outside-without f limits why none h)

pub none-there : (o : Option (List ℕ)) → false ≡ is_some o → o ≡ None
none-there None e = refl
none-there (Some bytes) e = absurd cc

pub some-there : (o : Option (List ℕ)) → true ≡ is_some o → o ≡ None → ⊥
some-there None e none = absurd cc
some-there (Some bytes) e none = absurd cc
