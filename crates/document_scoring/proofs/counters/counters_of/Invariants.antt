use Rattle.std.proofs.Common.{◌≡◌, take, map, All}
use Rattle.ri_base.specs.Pair.{Pair}
use Rattle.document_scoring.specs.Counters.{IsReady, counter_count, found_count}
use Rattle.document_scoring.proofs.counters.counters_of.Given as goal

abbrev pub invariant-loop-each : goal.invariant-loop-each
invariant-loop-each l = record {
  so_far : (w : Pair) → map (counter_count w) l.counters.items ≡ map (found_count l.spans w) (take l.each-index l.found);
  ready : All (IsReady 0) l.counters.items;
}
