use Rattle.std.proofs.Common.{◌%◌, arith}
use Rattle.range_masks.proofs.MaskLemmas.{bit_more}
use Rattle.range_masks.proofs.bits.with_id.Goals as goal

pub returns : goal.returns
returns c = λ i b small is. bit_more c.args.mask (c.args.id % 64) i b (omega arith) small is
