use Rattle.std.proofs.Common.{refl, ◌≡◌, ◌≤◌, ◌++◌, ◌∷◌, [], List, map, append_assoc, append-nil, ap, subst, sym, ◌∙◌}
use Rattle.std.specs.List.{All}
use Rattle.std.proofs.lemmas.List.Elements.{All-head, All-rest, All-same}
use Rattle.ri_base.specs.Pair.{Pair}
use Rattle.ri_base.specs.declared.query.Range.{Range}
use Rattle.belief_nodes.specs.Network.{network_tree}
use Rattle.belief_nodes.specs.declared.leaf_count.LeafCount.{LeafCount}
use Rattle.belief_nodes.specs.Priors.{Prior}
use Rattle.windows.specs.Windows.{AreRising, windows}
use Rattle.document_scoring.specs.Counters.{IsReady, counter_count, found_count}
use Rattle.document_scoring.specs.Rows.{AddsWindows}
use Rattle.document_scoring.proofs.CounterLemmas.{equally_long, ready_all, ready_rest, rising_rest}
use Rattle.document_scoring.proofs.ScoringLemmas.{more_windows, no_window, same_windows}
use Rattle.document_scoring.proofs.scoring.score_found.Goals as goal

pub score_window-requires-clause-each : goal.score_window-requires-clause-each
score_window-requires-clause-each g c =
    let w : Pair = record { begin = 0; end = 0 } in
    equally_long (counter_count w) (found_count c.args.spans.now w) c.loop-window.counters c.args.found.now (c.loop-window.invariant.same w) ∙ c.requires.each

pub score_window-requires-clause-ready : goal.score_window-requires-clause-ready
score_window-requires-clause-ready g c =
    let P : Pair → Type 0 = λ w. All (IsReady w.begin) c.loop-window.counters in
    All-head P c.in-Some.window c.next.new.self (subst (λ (ws : List Pair). All P ws) c.in-Some.ensures.steps c.loop-window.invariant.ready)

pub loop-window-init : goal.loop-window-init
loop-window-init g c =
    let priors = map (λ b. (goal.BeliefNode-dyn g (b.vtable, b.value)).meaning b.value) c.args.plugs.now in
    let left = c.into_iter-window-iterator.result in
    let ready = All-same (IsReady 0) c.as_mut_slice-counters.result.now c.in_ok-all.all.items c.as_mut_slice-counters.ensures.value c.in_ok-all.ensures.ready in
    record {
      can_next = tt;
      is_finite = tt;
      stay = refl;
      split = c.into_iter-window-iterator.ensures.into_iter_gives ∙ c.new-window-items.ensures.exact ∙ ap (λ (r : Range). windows r c.args.tokens c.args.spans.now) c.range.ensures;
      order = subst AreRising (sym c.into_iter-window-iterator.ensures.into_iter_gives) c.new-window-items.ensures.order;
      within = All-same (λ w. w.end ≤ c.args.tokens) left c.new-window-items.result c.into_iter-window-iterator.ensures.into_iter_gives c.new-window-items.ensures.within;
      ready = ready_all left c.as_mut_slice-counters.result.now ready;
      same = λ w. ap (map (counter_count w)) c.as_mut_slice-counters.ensures.value ∙ c.in_ok-all.ensures.exact w;
      adds = no_window c.args.rule.now.kind priors (network_tree c.args.network.now) c.args.docno.now c.args.tokens (λ w. map (found_count c.args.spans.now w) c.args.found.now) c.args.rows.now.items;
    }

pub loop-window-preserved : goal.loop-window-preserved
loop-window-preserved g c =
    let kind = c.args.rule.now.kind in
    let priors = map (λ b. (goal.BeliefNode-dyn g (b.vtable, b.value)).meaning b.value) c.args.plugs.now in
    let network = network_tree c.args.network.now in
    let counts : Pair → List LeafCount = λ w. map (found_count c.args.spans.now w) c.args.found.now in
    let held : Pair → List LeafCount = λ w. map (counter_count w) c.loop-window.counters in
    let at = c.loop-window.invariant in
    let left = c.loop-window.window-iterator in
    let rest = c.next.new.self in
    let w = c.in-Some.window in
    let is : left ≡ w ∷ rest = c.in-Some.ensures.steps in
    let adds : AddsWindows kind priors network c.args.docno.now c.args.tokens held (w ∷ []) c.loop-window.rows.items c.score_window.new.rows.items =
    subst (λ (ps : List Prior). AddsWindows kind ps network c.args.docno.now c.args.tokens held (w ∷ []) c.loop-window.rows.items c.score_window.new.rows.items) at.stay c.in_ok-score_window.ensures.adds in
    record {
      can_next = tt;
      is_finite = tt;
      stay = c.score_window.ensures.stay ∙ at.stay;
      split = append_assoc c.loop-window.yielded (w ∷ []) rest ∙ ap (λ (ws : List Pair). c.loop-window.yielded ++ ws) (sym is) ∙ at.split;
      order = rising_rest w rest left is at.order;
      within = All-rest (λ v. v.end ≤ c.args.tokens) w rest left is at.within;
      ready = ready_rest w rest left c.score_window.new.counters is at.order c.score_window.ensures.ready;
      same = λ v. c.score_window.ensures.same v ∙ at.same v;
      adds = more_windows kind priors network c.args.docno.now c.args.tokens counts c.loop-window.yielded (w ∷ []) c.args.rows.now.items c.loop-window.rows.items c.score_window.new.rows.items at.adds
          (same_windows kind priors network c.args.docno.now c.args.tokens held counts (w ∷ []) c.loop-window.rows.items c.score_window.new.rows.items at.same adds);
    }

pub returns-clause-adds : goal.returns-clause-adds
returns-clause-adds g c =
    let kind = c.args.rule.now.kind in
    let priors = map (λ b. (goal.BeliefNode-dyn g (b.vtable, b.value)).meaning b.value) c.args.plugs.now in
    let network = network_tree c.args.network.now in
    let counts : Pair → List LeafCount = λ w. map (found_count c.args.spans.now w) c.args.found.now in
    let at = c.loop-window.invariant in
    let all : c.loop-window.yielded ≡ windows network.range c.args.tokens c.args.spans.now =
    sym (append-nil c.loop-window.yielded) ∙ ap (λ (ws : List Pair). c.loop-window.yielded ++ ws) (sym c.in-None.ensures.steps.0) ∙ at.split in
    subst (λ (ws : List Pair). AddsWindows kind priors network c.args.docno.now c.args.tokens counts ws c.args.rows.now.items c.loop-window.rows.items) all at.adds
