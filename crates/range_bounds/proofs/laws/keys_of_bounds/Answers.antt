use Rattle.range_bounds.proofs.Falls.{key_falls}
use Rattle.range_bounds.proofs.laws.keys_of_bounds.Goals as goal

pub returns : goal.returns
returns c = key_falls
