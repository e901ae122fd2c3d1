use Rattle.range_masks.proofs.MaskLemmas.{bit_tested}
use Rattle.range_masks.proofs.bits.has_id.Goals as goal

pub returns : goal.returns
returns c = bit_tested _ _
