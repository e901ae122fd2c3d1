use Rattle.std.proofs.Common.{◌≡◌, ◌≤◌, ◌+◌, ◌-◌, map, take}
use Rattle.ri_base.specs.Keeps.{Keeps}
use Rattle.ri_base.specs.Query.{filter_tree}
use Rattle.belief_nodes.specs.Network.{network_tree}
use Rattle.disk_index.specs.Snapshots.{unmarked}
use Rattle.ranker.specs.First.{Advances, counted}
use Rattle.ranker.specs.Passed.{IsAhead, live_ids}
use Rattle.ranker.specs.Spent.{RiseAlike}
use Rattle.ranker.specs.Windows.{KeepsWindows}
use Rattle.ranker.proofs.parts.pass_masked.Given as goal

abbrev pub invariant-loop-at : goal.invariant-loop-at
invariant-loop-at g l = record {
  keeps : Keeps g.P.Postings.documents g.P.Postings.faults g.P.Postings.sound g.P.Postings.intact g.P.Postings.quiet l.fn.part l.part;
  undamaged : g.P.Postings.damage l.part ≡ g.P.Postings.damage l.fn.part;
  stay : map (λ b. (goal.BeliefNode-dyn g (b.vtable, b.value)).meaning b.value) l.plugs ≡ map (λ b. (goal.BeliefNode-dyn g (b.vtable, b.value)).meaning b.value) l.fn.plugs;
  so_far : g.P.Postings.sound l.fn.part → IsAhead (map filter_tree l.filters) (network_tree l.network).leaves (g.P.Postings.documents l.fn.part) l.id l.ahead
      → Advances l.rule.kind (map (λ b. (goal.BeliefNode-dyn g (b.vtable, b.value)).meaning b.value) l.fn.plugs) (map filter_tree l.filters) (network_tree l.network) (unmarked (take l.id (g.P.Postings.documents l.fn.part)) l.marks) (unmarked (take l.at (g.P.Postings.documents l.fn.part)) l.marks) (counted l.fn.first l.fn.squares 0) (counted l.first l.squares 0);
  windows : KeepsWindows (network_tree l.network) (unmarked (g.P.Postings.documents l.fn.part) l.marks) l.fn.first l.first;
  ids : live_ids l.marks l.at ≡ live_ids l.marks l.id + l.docs;
  from : l.id + l.docs ≤ l.at;
  inside : l.at ≤ l.end;
  few : l.docs ≤ l.most;
  squared : RiseAlike l.fn.squares l.squares l.fn.squared l.squared;
}

abbrev pub decreases-loop-at : goal.decreases-loop-at
decreases-loop-at g l = l.end - l.at
