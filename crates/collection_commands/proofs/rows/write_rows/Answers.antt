use Rattle.std.proofs.Common.{rules, ◌∙◌, arith}
use Rattle.collection_commands.proofs.RowLemmas.{rows-all, rows-broken, rows-more, rows-start}
use Rattle.collection_commands.proofs.rows.write_rows.Goals as goal

pub loop-line-init : goal.loop-line-init
loop-line-init g c = record { written = rows-start c.args.lines.now _; later = omega arith; same = search rules }

pub loop-line-preserved : goal.loop-line-preserved
loop-line-preserved g c = record {
  written = rows-more c.args.lines.now c.loop-line.line-index c.line-item.result _ _ _ c.loop-line-test.true c.line-item.is c.loop-line.invariant.written c.in-Ok.ensures.finished;
  later = omega (arith, c.loop-line.invariant.later, c.write_row.ensures.write.later);
  same = c.in-Ok.ensures.write.same (λ e. cc) ∙ c.loop-line.invariant.same;
}

pub returns-clause-finished : goal.returns-clause-finished
returns-clause-finished g c = rows-all c.args.lines.now c.loop-line.line-index _ _ c.loop-line-test.false c.loop-line.invariant.written

pub returns-in-Err-clause-broken : goal.returns-in-Err-clause-broken
returns-in-Err-clause-broken g c = rows-broken _ c.args.lines.now c.loop-line.line-index c.line-item.result _ _ _ c.loop-line-test.true c.line-item.is c.loop-line.invariant.written c.in-Err.ensures.broken
