use Rattle.std.proofs.Common.{◌≡◌, ◌∙◌, List, ℕ, Option, Some, ap}
use Rattle.std.specs.Option.{option_map}
use Rattle.store_ends.specs.Files.{Files, with_file}
use Rattle.manifest.specs.Spelling.{manifest_text}
use Rattle.repository.specs.Names.{manifest_name}
use Rattle.repository.specs.Stands.{empty_manifest}
use Rattle.repository.proofs.ManifestLemmas.{Leaves-created, Stands-made, changed-created}
use Rattle.repository.proofs.creation.create.Goals as goal

pub returns-in_err-replace_manifest-clause-started : goal.returns-in_err-replace_manifest-clause-started
returns-in_err-replace_manifest-clause-started g c = λ limits.
    Leaves-created limits _ _ _ _ _ c.as_slice.result.now c.has_manifest.ensures.quiet.no_more c.has_manifest.ensures.quiet.same_files (c.as_slice.ensures ∙ c.in_ok-bytes.ensures) c.replace_manifest.ensures.stops

pub returns-in_err-replace_manifest-clause-changed : goal.returns-in_err-replace_manifest-clause-changed
returns-in_err-replace_manifest-clause-changed g c =
    changed-created _ _ _ c.as_slice.result.now c.has_manifest.ensures.quiet.same_files (c.as_slice.ensures ∙ c.in_ok-bytes.ensures) c.replace_manifest.ensures.changed

pub returns-clause-changed : goal.returns-clause-changed
returns-clause-changed g c =
    changed-created _ _ _ c.as_slice.result.now c.has_manifest.ensures.quiet.same_files (c.as_slice.ensures ∙ c.in_ok-bytes.ensures) c.replace_manifest.ensures.changed

pub returns-clause-stands : goal.returns-clause-stands
returns-clause-stands g c = λ f limits told _.
    let bytes : c.as_slice.result.now ≡ manifest_text empty_manifest = c.as_slice.ensures ∙ c.in_ok-bytes.ensures in
    Stands-made limits f _
    (c.in_ok-replace_manifest.ensures.done
    ∙ ap (λ (o : Option Files). option_map (with_file manifest_name (Some c.as_slice.result.now)) o) (c.has_manifest.ensures.quiet.same_files ∙ told)
    ∙ ap (λ (l : List ℕ). option_map (with_file manifest_name (Some l)) (Some f)) bytes)

pub returns-clause-started : goal.returns-clause-started
returns-clause-started g c = λ limits.
    Leaves-created limits _ _ _ _ _ c.as_slice.result.now c.has_manifest.ensures.quiet.no_more c.has_manifest.ensures.quiet.same_files (c.as_slice.ensures ∙ c.in_ok-bytes.ensures) c.replace_manifest.ensures.stops
