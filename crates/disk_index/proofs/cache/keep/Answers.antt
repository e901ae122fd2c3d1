use Rattle.std.proofs.Common.{arith}
use Rattle.disk_index.proofs.CacheLemmas.{after_put, key_is}
use Rattle.disk_index.specs.contracts.cache.BlockKeyPartialEq.TheImpl.{eq-value}
use Rattle.disk_index.proofs.cache.keep.Goals as goal

pub returns : goal.returns
returns c = after_put {eq = eq-value.it} c.put.result c.args.kept.now c.put.new.self c.args.key c.args.block c.put.ensures.entries c.put.ensures.err (λ a b h.
    key_is a b (grind (arith, h)) (grind (arith, h)) (grind (arith, h)) (grind (arith, h)))
