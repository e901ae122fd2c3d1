use Rattle.std.proofs.Common.{◌≡◌, ◌+◌, length, ap, ◌∙◌, arith}
use Rattle.ri_base.proofs.FieldFaults.{answer_found, answer_only}
use Rattle.ri_base.specs.declared.seg_fault.PartName.TheVariants as parts
use Rattle.seg_codec.specs.Blocks.{block}
use Rattle.seg_codec.specs.Fits.{FitBlock}
use Rattle.seg_codec.specs.Spelling.{block_bytes}
use Rattle.seg_codec.proofs.BlockLaws.{block_takes, block_again}
use Rattle.seg_codec.proofs.calls.read_block.Goals as goal

pub returns-clause-found : goal.returns-clause-found
returns-clause-found c =
    answer_found (λ v. v.entries) (λ x. (c.args.bytes.now ≡ block_bytes c.args.range x) × FitBlock c.args.documents.now c.args.range x) (block c.args.documents.now c.args.range c.args.bytes.now)
    (λ x e. block_takes c.args.documents.now c.args.range c.args.bytes.now x (record { small = λ i. omega (arith, c.type_inv.bytes i) }) e) c.block_answer.result c.args.file parts.Block (c.args.place + length c.args.bytes.now) c.block_answer.ensures

pub returns-clause-only : goal.returns-clause-only
returns-clause-only c x fit is =
    answer_only (λ v. v.entries) (block c.args.documents.now c.args.range c.args.bytes.now) c.block_answer.result c.args.file parts.Block (c.args.place + length c.args.bytes.now) c.block_answer.ensures x (ap (block c.args.documents.now c.args.range) is ∙ block_again c.args.documents.now c.args.range x fit)
