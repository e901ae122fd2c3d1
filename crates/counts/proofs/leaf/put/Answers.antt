use Rattle.std.proofs.Common.{arith}
use Rattle.disk_index.proofs.CacheLemmas.{after_put}
use Rattle.counts.specs.contracts.kept_sum.SumKeyPartialEq.TheImpl.{eq-value}
use Rattle.counts.proofs.KeptLemmas.{key-is}
use Rattle.counts.proofs.leaf.put.Goals as goal

pub returns : goal.returns
returns c =
    after_put {eq = eq-value.it} c.put.result c.args.sums.now c.put.new.self c.args.key c.args.sum c.put.ensures.entries c.put.ensures.err (λ a b h. key-is a b (grind (arith, h)) (grind (arith, h)))
