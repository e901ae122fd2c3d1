use Rattle.std.proofs.Common.{None, arith}
use Rattle.std.proofs.lemmas.Bool.Decides.{nat_tests}
use Rattle.desk.proofs.search.results_of.Goals as goal

pub unreachable-requires : goal.unreachable-requires
unreachable-requires c =
    let some = c.in-None.ensures.some None in
    let all = c.requires.all None in
    grind (arith, nat_tests, some, all)
