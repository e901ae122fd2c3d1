use Rattle.std.proofs.Common.{◌≡◌, arith}
use Rattle.std.proofs.lemmas.Result.{IfOk-weaker}
use Rattle.extent_lists.proofs.RowLemmas.{begins_ascend}
use Rattle.extent_evaluation.proofs.WindowLemmas.{Covers-widened_step, Lists-windows}
use Rattle.extent_evaluation.proofs.unordered.windows.Goals as goal

pub least_ends-requires : goal.least_ends-requires
least_ends-requires c = rw c.deref.ensures.value (begins_ascend c.in_ok-all.all.items c.in_ok-all.ensures.ascending)

pub loop-i-preserved : goal.loop-i-preserved
loop-i-preserved c = record {
  within = omega arith;
  so_far = Covers-widened_step c.args.lists.now c.loop-i.i c.index-lists-i.result c.loop-i.out.items _ (omega arith) (omega arith) c.index-lists-i.is c.loop-i.invariant.so_far (rw (c.as_slice.ensures, c.deref-in-loop-i.ensures.value) at c.in_ok-out-2.ensures);
}

pub returns : goal.returns
returns c =
    let first : c.loop-i.i ≡ 0 = omega arith in
    IfOk-weaker _ _ _ (λ v is. Lists-windows c.args.n c.args.lists.now c.loop-i.out.items _ (rw first at c.loop-i.invariant.so_far) is) (rw c.deref-2.ensures.value at c.narrow.ensures)
