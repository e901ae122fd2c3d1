use Rattle.std.proofs.Common.{arith, rules, ◌<◌, length, sym, ◌≡◌, ◌++◌, ◌∷◌, [], map, ap, ◌∙◌}
use Rattle.std.proofs.Math.Seq.{map-set_same}
use Rattle.std.proofs.lemmas.List.Elements.{All-set}
use Rattle.document_scoring.specs.Counters.{IsReady, counter_count}
use Rattle.document_scoring.proofs.CountLemmas.{next_counted}
use Rattle.document_scoring.proofs.counters.count_all.Goals as goal

pub returns-in_err-push-clause-same : goal.returns-in_err-push-clause-same
returns-in_err-push-clause-same c = λ w.
    map-set_same (counter_count w) c.loop-counter.counters c.loop-counter.counter-index c.count-count.new.self c.counter-item.result (c.count-count.ensures.same w)
    ∙ c.loop-counter.invariant.same w

pub loop-counter-preserved : goal.loop-counter-preserved
loop-counter-preserved c =
    let pushed : c.push.new.self.items ≡ c.loop-counter.counts.items ++ c.count-count.result ∷ [] = search rules in
    let inside : c.loop-counter.counter-index < length c.loop-counter.counters = omega (arith, c.loop-counter-test.true, c.loop-counter.auto.counters) in
    record {
      so_far = pushed ∙ next_counted (counter_count c.args.window) c.loop-counter.counters (map (counter_count c.args.window) c.args.counters.now) c.loop-counter.counts.items c.loop-counter.counter-index c.counter-item.result c.count-count.result
          inside c.counter-item.is (c.loop-counter.invariant.same c.args.window) c.loop-counter.invariant.so_far (c.count-count.ensures.exact ∙ ap (counter_count c.args.window) (sym c.counter-item.is));
      same = λ w. map-set_same (counter_count w) c.loop-counter.counters c.loop-counter.counter-index c.count-count.new.self c.counter-item.result (c.count-count.ensures.same w) ∙ c.loop-counter.invariant.same w;
      ready = All-set (IsReady c.args.window.begin) c.loop-counter.counters c.loop-counter.counter-index c.count-count.new.self c.count-count.ensures.ready c.loop-counter.invariant.ready;
    }
