use Rattle.std.proofs.Common.{◌≡◌, take, map, All}
use Rattle.ri_base.specs.Pair.{Pair}
use Rattle.document_scoring.specs.Counters.{IsReady, counter_count}
use Rattle.document_scoring.proofs.counters.count_all.Given as goal

abbrev pub invariant-loop-counter : goal.invariant-loop-counter
invariant-loop-counter l = record {
  so_far : l.counts.items ≡ take l.counter-index (map (counter_count l.window) l.fn.counters);
  same : (w : Pair) → map (counter_count w) l.counters ≡ map (counter_count w) l.fn.counters;
  ready : All (IsReady l.window.begin) l.counters;
}
