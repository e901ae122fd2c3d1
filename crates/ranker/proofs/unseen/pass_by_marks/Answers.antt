use Rattle.std.proofs.Common.{arith}
use Rattle.ranker.proofs.PassedLemmas.{ids-counted}
use Rattle.ranker.proofs.unseen.pass_by_marks.Goals as goal

pub loop-at-preserved : goal.loop-at-preserved
loop-at-preserved c =
    let next = ids-counted c.args.marks.now c.loop-at.at c.is_marked.result (omega (arith, c.loop-at-test.true, c.requires.end)) c.is_marked.ensures in
    record {
      ids = omega (arith, c.loop-at.invariant.ids, next.0, c.from-docs.ensures);
      from = omega (arith, c.loop-at.invariant.from, next.1, c.from-docs.ensures);
      inside = omega (arith, c.loop-at-test.true);
      few = omega (arith, c.loop-at.invariant.few, c.loop-at-test.true, next.1, c.from-docs.ensures);
    }

pub returns-after-loop-at-clause-passed : goal.returns-after-loop-at-clause-passed
returns-after-loop-at-clause-passed c = record {
  inside = omega (arith, c.loop-at.invariant.inside, c.requires.end);
  docs = c.loop-at.invariant.ids;
  few = c.loop-at.invariant.few;
}

pub returns-else-docs-most-clause-passed : goal.returns-else-docs-most-clause-passed
returns-else-docs-most-clause-passed c = record {
  inside = omega (arith, c.loop-at.invariant.inside, c.requires.end);
  docs = c.loop-at.invariant.ids;
  few = c.loop-at.invariant.few;
}
