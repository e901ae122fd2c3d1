use Rattle.std.proofs.Common.{arith}
use Rattle.extent_evaluation.proofs.CoverLemmas.{least_ends_step}
use Rattle.extent_evaluation.proofs.ends.least_ends.Goals as goal

pub loop-i-preserved : goal.loop-i-preserved
loop-i-preserved c = record {
  within = omega arith;
  so_far = rw c.in_ok-put_least.ensures (least_ends_step c.args.xs.now _ c.loop-i.i c.index-xs-i.result (omega arith) (omega arith) c.index-xs-i.is c.requires c.loop-i.invariant.so_far);
}
