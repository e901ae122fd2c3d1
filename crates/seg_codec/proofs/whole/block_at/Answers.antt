use Rattle.std.proofs.Common.{◌≡◌, ◌≤◌, ◌+◌, List, ℕ, length, ap, subst, ◌∙◌, arith}
use Rattle.ri_base.specs.declared.seg_fault.PartName.TheVariants as parts
use Rattle.seg_codec.specs.Blocks.{block}
use Rattle.seg_codec.specs.Whole.{AnswersFile, block_bytes_in, between, in_part}
use Rattle.seg_codec.specs.declared.blocks.Block.{Block}
use Rattle.seg_codec.proofs.WholeLemmas.{between_most, in_part_answers}
use Rattle.seg_codec.proofs.whole.block_at.Goals as goal

pub read_block-requires : goal.read_block-requires
read_block-requires c =
    let b = c.args.block.now in
    let most = between_most c.args.bytes.now b.place (b.place + c.from.result) in
    let same = ap length c.between-part.ensures in
    let inside : b.place + b.length ≤ length c.args.bytes.now = c.requires in
    let long : c.from.result ≡ b.length = c.from.ensures in
    omega (arith, most, same)

pub returns : goal.returns
returns c =
    let b = c.args.block.now in
    let docs = c.args.documents.now in
    let is : c.between-part.result.now ≡ block_bytes_in c.args.bytes.now b = c.between-part.ensures ∙ ap (λ (n : ℕ). between c.args.bytes.now b.place (b.place + n)) c.from.ensures in
    subst (λ (x : List ℕ). AnswersFile (λ (v : Block). v.entries) c.read_block.result (in_part parts.Block (b.place + length x) (block docs b.range x)) c.args.file) is
    (in_part_answers (λ (v : Block). v.entries) c.read_block.result (block docs b.range c.between-part.result.now) c.args.file parts.Block (b.place + length c.between-part.result.now) c.read_block.ensures.exact)
