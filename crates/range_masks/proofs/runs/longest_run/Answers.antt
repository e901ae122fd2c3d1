use Rattle.std.proofs.Common.{subst, arith}
use Rattle.std.proofs.lemmas.List.{take_all}
use Rattle.range_masks.specs.Most.{IsMostOfOne}
use Rattle.range_masks.proofs.RunLemmas.{run_more, run_none, run_short}
use Rattle.range_masks.proofs.runs.longest_run.Goals as goal

pub loop-place-init : goal.loop-place-init
loop-place-init c = record { few = omega arith; run = run_none c.args.postings.now }

pub loop-place-preserved : goal.loop-place-preserved
loop-place-preserved c = record {
  few = omega (arith, c.loop-place.invariant.few, run_short _ c.loop-place.run c.with_one-run.result c.with_one-run.ensures);
  run = run_more c.args.postings.now c.loop-place.place-index c.loop-place.id c.loop-place.run c.loop-place.most c.with_one-run.result c.max-most.result _
      c.loop-place-test.true c.requires c.loop-place.invariant.run c.with_one-run.ensures c.max-most.ensures;
}

pub returns : goal.returns
returns c = subst (λ ps. IsMostOfOne ps c.loop-place.most) (take_all c.loop-place.place-index c.args.postings.now c.loop-place-test.false) c.loop-place.invariant.run.longest
