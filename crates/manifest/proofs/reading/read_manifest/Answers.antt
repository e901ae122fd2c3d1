use Rattle.std.proofs.Common.{length, arith}
use Rattle.ri_base.specs.declared.seg_fault.FileName.TheVariants as files
use Rattle.ri_base.specs.declared.seg_fault.PartName.TheVariants as parts
use Rattle.manifest.proofs.ManifestLaws.{manifest_found, manifest_only}
use Rattle.manifest.proofs.reading.read_manifest.Goals as goal

pub returns-clause-found : goal.returns-clause-found
returns-clause-found c =
    manifest_found c.args.bytes.now files.Manifest parts.Manifest (length c.args.bytes.now) c.answer.result (record { small = λ i. omega (arith, c.type_inv.bytes i) }) c.answer.ensures

pub returns-clause-only : goal.returns-clause-only
returns-clause-only c =
    manifest_only c.args.bytes.now files.Manifest parts.Manifest (length c.args.bytes.now) c.answer.result c.answer.ensures
