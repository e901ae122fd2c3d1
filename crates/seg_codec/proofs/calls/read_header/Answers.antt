use Rattle.std.proofs.Common.{◌≡◌, length, ap, ◌∙◌, arith}
use Rattle.ri_base.proofs.FieldFaults.{answer_found, answer_only}
use Rattle.ri_base.specs.declared.seg_fault.PartName.TheVariants as parts
use Rattle.seg_codec.specs.Headers.{header}
use Rattle.seg_codec.specs.Fits.{FitsHeader}
use Rattle.seg_codec.specs.Spelling.{header_bytes}
use Rattle.seg_codec.proofs.HeaderLaws.{header_takes, header_again}
use Rattle.seg_codec.proofs.calls.read_header.Goals as goal

pub returns-clause-found : goal.returns-clause-found
returns-clause-found c =
    answer_found (λ v. v) (λ x. (c.args.bytes.now ≡ header_bytes x) × FitsHeader c.args.docs c.args.size x) (header c.args.docs c.args.size c.args.bytes.now)
    (λ x e. header_takes c.args.docs c.args.size c.args.bytes.now x (record { small = λ i. omega (arith, c.type_inv.bytes i) }) e) c.header_answer.result c.args.file parts.Header (length c.args.bytes.now) c.header_answer.ensures

pub returns-clause-only : goal.returns-clause-only
returns-clause-only c x fit is =
    answer_only (λ v. v) (header c.args.docs c.args.size c.args.bytes.now) c.header_answer.result c.args.file parts.Header (length c.args.bytes.now) c.header_answer.ensures x (ap (header c.args.docs c.args.size) is ∙ header_again c.args.docs c.args.size x fit)
