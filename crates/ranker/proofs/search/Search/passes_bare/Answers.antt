use Rattle.std.proofs.Common.{arith}
use Rattle.std.proofs.lemmas.Bool.Decides.{nat_tests}
use Rattle.ranker.proofs.search.Search.passes_bare.Goals as goal

pub overflow_sub-result : goal.overflow_sub-result
overflow_sub-result c = let from = (c.args.self.now.next c.requires.usable).from in omega (arith, from)

pub returns : goal.returns
returns c = λ yes. let from = (c.args.self.now.next c.requires.usable).from in grind (arith, nat_tests)
