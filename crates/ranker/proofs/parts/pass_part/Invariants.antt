use Rattle.std.proofs.Common.{◌≡◌, ◌≤◌, ◌+◌, ◌-◌, ◌*◌, ℕ, List, length, map}
use Rattle.ri_base.specs.Documents.{Document}
use Rattle.ri_base.specs.Keeps.{Keeps}
use Rattle.ri_base.specs.Query.{filter_tree}
use Rattle.belief_nodes.specs.Network.{network_tree}
use Rattle.disk_index.specs.Snapshots.{unmarked}
use Rattle.ranker.specs.Blocks.{OpensWithin, opened_of}
use Rattle.ranker.specs.Going.{IsKnownIn}
use Rattle.ranker.specs.Passed.{live_ids}
use Rattle.ranker.specs.Spent.{RiseAlike}
use Rattle.ranker.specs.Unbeaten.{Passes, live_to, sought, stretch, work_to}
use Rattle.ranker.specs.Windows.{KeepsWindows}
use Rattle.ranker.proofs.parts.pass_part.Given as goal

abbrev pub invariant-loop-at : goal.invariant-loop-at
invariant-loop-at g l = record {
  keeps : Keeps g.P.Postings.documents g.P.Postings.faults g.P.Postings.sound g.P.Postings.intact g.P.OpensRanges.calm l.fn.part l.part;
  undamaged : g.P.Postings.damage l.part ≡ g.P.Postings.damage l.fn.part;
  stay : map (λ b. (goal.BeliefNode-dyn g (b.vtable, b.value)).meaning b.value) l.plugs ≡ map (λ b. (goal.BeliefNode-dyn g (b.vtable, b.value)).meaning b.value) l.fn.plugs;
  so_far : g.P.Postings.sound l.fn.part → (before : List Document) (count : ℕ) → IsKnownIn (sought l.rule.kind (map (λ b. (goal.BeliefNode-dyn g (b.vtable, b.value)).meaning b.value) l.fn.plugs) (map filter_tree l.filters) (network_tree l.network) l.tables count) (stretch l.number before (g.P.Postings.documents l.fn.part) l.marks) l.id l.fn.ahead
      → Passes (sought l.rule.kind (map (λ b. (goal.BeliefNode-dyn g (b.vtable, b.value)).meaning b.value) l.fn.plugs) (map filter_tree l.filters) (network_tree l.network) l.tables count) (length l.terms) (live_to (stretch l.number before (g.P.Postings.documents l.fn.part) l.marks) l.id) (live_to (stretch l.number before (g.P.Postings.documents l.fn.part) l.marks) l.at) l.fn.first l.first
      (work_to (sought l.rule.kind (map (λ b. (goal.BeliefNode-dyn g (b.vtable, b.value)).meaning b.value) l.fn.plugs) (map filter_tree l.filters) (network_tree l.network) l.tables count) (stretch l.number before (g.P.Postings.documents l.fn.part) l.marks) l.id l.fn.ahead (g.P.OpensRanges.present l.fn.part) l.fn.squares l.fn.blocks) (work_to (sought l.rule.kind (map (λ b. (goal.BeliefNode-dyn g (b.vtable, b.value)).meaning b.value) l.fn.plugs) (map filter_tree l.filters) (network_tree l.network) l.tables count) (stretch l.number before (g.P.Postings.documents l.fn.part) l.marks) l.at l.known (g.P.OpensRanges.present l.part) l.squares l.blocks);
  ahead : g.P.Postings.sound l.fn.part → (before : List Document) (count : ℕ) → IsKnownIn (sought l.rule.kind (map (λ b. (goal.BeliefNode-dyn g (b.vtable, b.value)).meaning b.value) l.fn.plugs) (map filter_tree l.filters) (network_tree l.network) l.tables count) (stretch l.number before (g.P.Postings.documents l.fn.part) l.marks) l.id l.fn.ahead → IsKnownIn (sought l.rule.kind (map (λ b. (goal.BeliefNode-dyn g (b.vtable, b.value)).meaning b.value) l.fn.plugs) (map filter_tree l.filters) (network_tree l.network) l.tables count) (stretch l.number before (g.P.Postings.documents l.fn.part) l.marks) l.at l.known;
  windows : KeepsWindows (network_tree l.network) (unmarked (g.P.Postings.documents l.fn.part) l.marks) l.fn.first l.first;
  ids : live_ids l.marks l.at ≡ live_ids l.marks l.id + l.docs;
  inside : l.at ≤ l.size;
  few : l.docs ≤ l.most;
  opened : OpensWithin (length l.terms) (opened_of (length l.marks) (g.P.OpensRanges.present l.fn.part) l.id) (opened_of (length l.marks) (g.P.OpensRanges.present l.part) l.at) l.fn.blocks l.blocks;
  each : l.blocks ≤ l.fn.blocks + length l.terms * l.docs;
  squared : RiseAlike l.fn.squares l.squares l.fn.spent.squared l.spent.squared;
  counted : RiseAlike l.fn.blocks l.blocks l.fn.spent.opened l.spent.opened;
}

abbrev pub decreases-loop-at : goal.decreases-loop-at
decreases-loop-at g l = l.size - l.at
