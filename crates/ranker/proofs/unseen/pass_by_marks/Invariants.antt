use Rattle.std.proofs.Common.{◌≡◌, ◌≤◌, ◌+◌, ◌-◌}
use Rattle.ranker.specs.Passed.{live_ids}
use Rattle.ranker.proofs.unseen.pass_by_marks.Given as goal

abbrev pub invariant-loop-at : goal.invariant-loop-at
invariant-loop-at l = record {
  ids : live_ids l.marks l.at ≡ live_ids l.marks l.id + l.docs;
  from : l.id + l.docs ≤ l.at;
  inside : l.at ≤ l.end;
  few : l.docs ≤ l.most;
}

abbrev pub decreases-loop-at : goal.decreases-loop-at
decreases-loop-at l = l.end - l.at
