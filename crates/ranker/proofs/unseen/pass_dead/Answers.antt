use Rattle.std.proofs.Common.{arith}
use Rattle.ranker.proofs.PassedLemmas.{ids-dead}
use Rattle.ranker.proofs.unseen.pass_dead.Goals as goal

pub returns-clause-passed : goal.returns-clause-passed
returns-clause-passed c = λ most. record {
  inside = omega (arith, c.requires.id);
  docs = ids-dead c.args.marks.now c.args.id c.requires.id c.requires.dead;
  few = omega arith;
}
