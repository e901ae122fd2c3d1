use Rattle.range_bounds.proofs.Covers.{tf_most}
use Rattle.range_bounds.proofs.laws.extents_are_few.Goals as goal

pub returns : goal.returns
returns c = tf_most
