use Rattle.std.proofs.Common.{◌≡◌, ◌+◌, length, ap, ◌∙◌, arith}
use Rattle.ri_base.proofs.FieldFaults.{answer_found, answer_only}
use Rattle.ri_base.specs.declared.seg_fault.PartName.TheVariants as parts
use Rattle.seg_codec.specs.Documents.{documents}
use Rattle.seg_codec.specs.Fits.{FitDocuments}
use Rattle.seg_codec.specs.Spelling.{documents_bytes}
use Rattle.seg_codec.proofs.DocumentLaws.{documents_take, documents_again}
use Rattle.seg_codec.proofs.calls.read_documents.Goals as goal

pub returns-clause-found : goal.returns-clause-found
returns-clause-found c =
    answer_found (λ v. v) (λ x. (c.args.bytes.now ≡ documents_bytes x) × FitDocuments c.args.header.now x) (documents c.args.header.now c.args.bytes.now)
    (λ x e. documents_take c.args.header.now c.args.bytes.now x (record { small = λ i. omega (arith, c.type_inv.bytes i) }) e) c.documents_answer.result c.args.file parts.Documents (c.args.header.now.documents_at + length c.args.bytes.now) c.documents_answer.ensures

pub returns-clause-only : goal.returns-clause-only
returns-clause-only c x fit is =
    answer_only (λ v. v) (documents c.args.header.now c.args.bytes.now) c.documents_answer.result c.args.file parts.Documents (c.args.header.now.documents_at + length c.args.bytes.now) c.documents_answer.ensures x (ap (documents c.args.header.now) is ∙ documents_again c.args.header.now x fit)
