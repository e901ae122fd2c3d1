use Rattle.std.proofs.Common.{arith}
use Rattle.range_tables.proofs.table.told_of.Goals as goal

pub returns-then-range-next-clause-exact : goal.returns-then-range-next-clause-exact
returns-then-range-next-clause-exact g c = λ sound absent. absent c.args.range (omega arith) c.if-range-next.true
