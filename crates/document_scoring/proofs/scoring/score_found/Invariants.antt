use Rattle.std.proofs.Common.{◌≡◌, ◌≤◌, ◌++◌, map, All}
use Rattle.ri_base.specs.Pair.{Pair}
use Rattle.belief_nodes.specs.Network.{network_tree}
use Rattle.windows.specs.Windows.{AreRising, windows}
use Rattle.document_scoring.specs.Counters.{IsReady, counter_count, found_count}
use Rattle.document_scoring.specs.Rows.{AddsWindows}
use Rattle.document_scoring.proofs.scoring.score_found.Given as goal

abbrev pub invariant-loop-window : goal.invariant-loop-window
invariant-loop-window g l = record {
  can_next : (goal.iterator-loop-window g).can_next l.window-iterator;
  is_finite : (goal.iterator-loop-window g).is_finite l.window-iterator;
  stay : map (λ b. (goal.BeliefNode-dyn g (b.vtable, b.value)).meaning b.value) l.plugs ≡ map (λ b. (goal.BeliefNode-dyn g (b.vtable, b.value)).meaning b.value) l.initial.plugs;
  split : l.yielded ++ l.window-iterator ≡ windows (network_tree l.network).range l.tokens l.spans;
  order : AreRising l.window-iterator;
  within : All (λ w. w.end ≤ l.tokens) l.window-iterator;
  ready : All (λ w. All (IsReady w.begin) l.counters) l.window-iterator;
  same : (w : Pair) → map (counter_count w) l.counters ≡ map (found_count l.spans w) l.fn.found;
  adds : AddsWindows l.rule.kind (map (λ b. (goal.BeliefNode-dyn g (b.vtable, b.value)).meaning b.value) l.initial.plugs) (network_tree l.network) l.docno l.tokens (λ w. map (found_count l.spans w) l.fn.found) l.yielded l.fn.rows.items l.rows.items;
}
