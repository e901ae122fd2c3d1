use Rattle.std.proofs.Common.{rules}
use Rattle.ranker.proofs.BareLemmas.{run-clear}
use Rattle.ranker.proofs.bare.clear_bits.Goals as goal

pub returns : goal.returns
returns c = λ i low high. run-clear c.args.mask c.args.id c.min.result i (search rules) c.min.ensures low high
