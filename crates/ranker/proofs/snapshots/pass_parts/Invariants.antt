use Rattle.std.proofs.Common.{◌≡◌, ◌≤◌, ◌+◌, ◌-◌, ◌*◌, ℕ, length, map, min}
use Rattle.ri_base.specs.Query.{filter_tree}
use Rattle.belief_nodes.specs.Network.{network_tree}
use Rattle.disk_index.specs.Snapshots.{AreBacked, IsFileAmong, live}
use Rattle.ranker.specs.Blocks.{AreReadAt, OpensWithin, opened_at}
use Rattle.ranker.specs.Going.{IsAheadBy}
use Rattle.ranker.specs.Passed.{IsPlace, part_at, passed}
use Rattle.ranker.specs.Reading.{OnlyReads}
use Rattle.ranker.specs.Spent.{RiseAlike}
use Rattle.ranker.specs.Unbeaten.{Passes, sought, work_at}
use Rattle.ranker.specs.Windows.{KeepsWindows}
use Rattle.ranker.proofs.snapshots.pass_parts.Given as goal

abbrev pub invariant-loop-left : goal.invariant-loop-left
invariant-loop-left g l = record {
  stay : map (λ b. (goal.BeliefNode-dyn g (b.vtable, b.value)).meaning b.value) l.plugs ≡ map (λ b. (goal.BeliefNode-dyn g (b.vtable, b.value)).meaning b.value) l.fn.plugs;
  so_far : AreBacked (g.T.Store.files l.fn.store) l.parts → AreReadAt (g.T.Store.files l.fn.store) l.parts l.fn.at l.fn.cache l.fn.held → (count : ℕ) → IsAheadBy (sought l.rule.kind (map (λ b. (goal.BeliefNode-dyn g (b.vtable, b.value)).meaning b.value) l.fn.plugs) (map filter_tree l.filters) (network_tree l.network) l.tables count) (g.T.Store.files l.fn.store) l.parts l.fn.at
      → Passes (sought l.rule.kind (map (λ b. (goal.BeliefNode-dyn g (b.vtable, b.value)).meaning b.value) l.fn.plugs) (map filter_tree l.filters) (network_tree l.network) l.tables count) (length l.terms) (passed (g.T.Store.files l.fn.store) l.parts l.fn.at) (passed (g.T.Store.files l.fn.store) l.parts l.at) l.fn.first l.first
      (work_at (sought l.rule.kind (map (λ b. (goal.BeliefNode-dyn g (b.vtable, b.value)).meaning b.value) l.fn.plugs) (map filter_tree l.filters) (network_tree l.network) l.tables count) (g.T.Store.files l.fn.store) l.parts l.fn.at l.fn.held.range l.fn.squares l.fn.blocks) (work_at (sought l.rule.kind (map (λ b. (goal.BeliefNode-dyn g (b.vtable, b.value)).meaning b.value) l.fn.plugs) (map filter_tree l.filters) (network_tree l.network) l.tables count) (g.T.Store.files l.fn.store) l.parts l.at l.held.range l.squares l.blocks);
  ahead : AreBacked (g.T.Store.files l.fn.store) l.parts → AreReadAt (g.T.Store.files l.fn.store) l.parts l.fn.at l.fn.cache l.fn.held → (count : ℕ) → IsAheadBy (sought l.rule.kind (map (λ b. (goal.BeliefNode-dyn g (b.vtable, b.value)).meaning b.value) l.fn.plugs) (map filter_tree l.filters) (network_tree l.network) l.tables count) (g.T.Store.files l.fn.store) l.parts l.fn.at → IsAheadBy (sought l.rule.kind (map (λ b. (goal.BeliefNode-dyn g (b.vtable, b.value)).meaning b.value) l.fn.plugs) (map filter_tree l.filters) (network_tree l.network) l.tables count) (g.T.Store.files l.fn.store) l.parts l.at;
  windows : KeepsWindows (network_tree l.network) (live (g.T.Store.files l.fn.store) l.parts) l.fn.first l.first;
  place : IsPlace l.parts l.at;
  reads : OnlyReads g.T.Store.files g.T.Store.layers g.T.Store.clock g.T.Store.since g.T.Store.longest g.T.Store.held g.T.Store.faults (IsFileAmong l.parts) (λ told. AreBacked told l.parts) (part_at l.parts l.fn.at.part).source (part_at l.parts l.at.part).source l.fn.store l.store l.fn.cache l.cache l.fn.held l.held;
  opened : OpensWithin (length l.terms) (opened_at l.parts l.fn.at l.fn.held.range) (opened_at l.parts l.at l.held.range) l.fn.blocks l.blocks;
  few : l.blocks + length l.terms * l.left ≤ l.fn.blocks + length l.terms * l.docs;
  credit : l.at.credit + l.left ≡ l.fn.at.credit + l.docs;
  undamaged : l.cache.damage ≡ l.fn.cache.damage;
  squared : RiseAlike l.fn.squares l.squares l.fn.spent.squared l.spent.squared;
  counted : RiseAlike l.fn.blocks l.blocks l.fn.spent.opened l.spent.opened;
}

abbrev pub decreases-loop-left : goal.decreases-loop-left
decreases-loop-left g l = length l.parts - l.at.part + min l.left 1
