use Rattle.std.proofs.Common.{◌≤◌}
use Rattle.range_masks.proofs.RunLemmas.{IsRunTo}
use Rattle.range_masks.proofs.runs.longest_run.Given as goal

abbrev pub invariant-loop-place : goal.invariant-loop-place
invariant-loop-place l = record {
  few : l.run ≤ l.place-index;
  run : IsRunTo l.postings l.place-index l.id l.run l.most;
}
