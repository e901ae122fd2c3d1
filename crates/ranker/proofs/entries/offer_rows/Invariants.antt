use Rattle.std.proofs.Common.{◌≡◌, ◌+◌, ◌++◌, All, List, length, map}
use Rattle.belief_nodes.specs.Network.{network_tree}
use Rattle.bounded_keys.specs.Kept.{AreAmong}
use Rattle.bounded_keys.specs.declared.entry.Entry.{Entry}
use Rattle.document_scoring.specs.declared.scoring.Row.{Row}
use Rattle.ranker.specs.First.{WereOffered, early_cost, early_of}
use Rattle.ranker.specs.declared.window.Window.{Window}
use Rattle.ranker.proofs.entries.offer_rows.Given as goal

abbrev pub invariant-loop-row : goal.invariant-loop-row
invariant-loop-row g l = record {
  most : l.first.most ≡ l.fn.first.most;
  scale : l.first.scale ≡ l.fn.first.scale;
  spent : l.squares + early_cost (network_tree l.network) (length l.rows.items) ≡ l.fn.squares + early_cost (network_tree l.network) (length l.fn.rows.items);
  each : All (λ (row : Row). length row.fractions ≡ length (network_tree l.network).leaves) l.rows.items;
  offered : (all : List (Entry Window)) → WereOffered all l.fn.first
      → (taken : List Row) × (l.fn.rows.items ≡ l.rows.items ++ taken) × WereOffered (map (early_of (network_tree l.network)) taken ++ all) l.first;
  among : (taken : List Row) × (l.fn.rows.items ≡ l.rows.items ++ taken)
      × AreAmong (l.first.held ++ l.first.near) (map (early_of (network_tree l.network)) taken ++ (l.fn.first.held ++ l.fn.first.near));
}

abbrev pub decreases-loop-row : goal.decreases-loop-row
decreases-loop-row g l = length l.rows.items
