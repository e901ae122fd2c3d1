use Rattle.std.proofs.Common.{◌≡◌, ◌⊎◌, ◌<◌, ◌-◌, ◌^◌, Contains, length, map, take}
use Rattle.std.specs.Prelude.{All}
use Rattle.ri_base.specs.declared.hit.LeafStats.{LeafStats}
use Rattle.query_check.specs.Leaves.{leaf_tree}
use Rattle.belief_nodes.specs.Leaves.{AreLeafStats}
use Rattle.disk_index.specs.Cache.{IsCacheBacked}
use Rattle.disk_index.specs.Snapshots.{AreBacked, IsFileAmong, live}
use Rattle.document_scoring.specs.Counts.{stats_of}
use Rattle.counts.specs.Kept.{AreSums, Kept}
use Rattle.counts.specs.Reading.{OnlyReads}
use Rattle.desk.proofs.leaves.all_stats.Given as goal

abbrev pub invariant-loop-leaf : goal.invariant-loop-leaf
invariant-loop-leaf g l =
    let told = g.T.Store.files l.fn.store in
    let docs = live told l.snapshot in
    record {
      exact : AreBacked told l.snapshot → IsCacheBacked told l.fn.cache → AreSums docs l.generation l.fn.counts → l.stats.items ≡ map (stats_of docs) (map leaf_tree (take l.leaf-index l.leaves));
      kept : AreBacked told l.snapshot → IsCacheBacked told l.fn.cache → AreSums docs l.generation l.fn.counts → AreSums docs l.generation l.counts;
      adds : (e : Kept) → Contains l.counts e → Contains l.fn.counts e ⊎ (e.generation < 2 ^ 64 - 1);
      each : length l.stats.items ≡ l.leaf-index;
      range : All (λ (s : LeafStats). AreLeafStats s) l.stats.items;
      reads : OnlyReads g.T.Store.files g.T.Store.layers g.T.Store.clock g.T.Store.since g.T.Store.longest g.T.Store.held g.T.Store.faults (IsFileAmong l.snapshot) l.fn.store l.store l.fn.cache l.cache;
      undamaged : l.cache.damage ≡ l.fn.cache.damage;
    }
