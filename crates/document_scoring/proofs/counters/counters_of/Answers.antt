use Rattle.std.proofs.Common.{arith, rules, ◌≡◌, ◌++◌, ◌∷◌, [], map, ap, ◌∙◌}
use Rattle.std.proofs.lemmas.List.{take_all}
use Rattle.std.proofs.lemmas.List.Elements.{All-push}
use Rattle.document_scoring.specs.Counters.{IsReady, counter_count, found_count}
use Rattle.document_scoring.proofs.CountLemmas.{next_same}
use Rattle.document_scoring.proofs.counters.counters_of.Goals as goal

pub loop-each-preserved : goal.loop-each-preserved
loop-each-preserved c =
    let pushed : c.push.new.self.items ≡ c.loop-each.counters.items ++ c.new.result ∷ [] = search rules in
    record {
      so_far = λ w. rw pushed (next_same (counter_count w) (found_count c.args.spans.now w) c.loop-each.counters.items c.args.found.now c.loop-each.each-index c.new.result c.each-item.result c.loop-each-test.true c.each-item.is (c.loop-each.invariant.so_far w) (c.new.ensures.exact w));
      ready = rw pushed (All-push (IsReady 0) c.loop-each.counters.items c.new.result c.loop-each.invariant.ready c.new.ensures.ready);
    }

pub returns-clause-exact : goal.returns-clause-exact
returns-clause-exact c = λ w. c.loop-each.invariant.so_far w ∙ ap (map (found_count c.args.spans.now w)) (take_all c.loop-each.each-index c.args.found.now (omega arith))
