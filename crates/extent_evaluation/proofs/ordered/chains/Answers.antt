use Rattle.std.proofs.Common.{◌≡◌, arith}
use Rattle.std.proofs.lemmas.Grind.{common_steps, elements}
use Rattle.extent_lists.specs.Rows.{IsAscending}
use Rattle.extent_evaluation.proofs.ChainLemmas.{Covers-chain_step, Lists-chain}
use Rattle.extent_lists.proofs.RowLemmas.{begins_ascend}
use Rattle.extent_evaluation.proofs.ordered.chains.Goals as goal

pub least_ends-requires : goal.least_ends-requires
least_ends-requires c =
    let up : IsAscending c.as_slice.result.now = first_of (grind (arith, elements), grind (arith, common_steps)) in
    begins_ascend c.as_slice.result.now up

pub loop-i-preserved : goal.loop-i-preserved
loop-i-preserved c = record {
  within = omega arith;
  so_far = Covers-chain_step c.args.n c.args.lists.now c.loop-i.i c.index-first-i.result c.loop-i.out.items _ (omega arith) (grind (arith, common_steps)) (grind (arith, common_steps)) c.loop-i.invariant.so_far (rw (c.as_slice-in-loop-i.ensures, c.deref.ensures.value) at c.in_ok-out-2.ensures);
}

pub returns : goal.returns
returns c =
    let first : c.loop-i.i ≡ 0 = omega arith in
    Lists-chain c.args.n c.args.lists.now _ (rw first at c.loop-i.invariant.so_far)
