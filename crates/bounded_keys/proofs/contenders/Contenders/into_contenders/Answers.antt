use Rattle.std.proofs.Common.{rules, ◌≡◌, ◌++◌, ap, not, subst, sym, ◌∙◌}
use Rattle.std.specs.BinaryHeap.{heap_items}
use Rattle.std.specs.List.{filter}
use Rattle.bounded_keys.specs.Kept.{AreAmong, AreContenders, IsKept, Kept, beats}
use Rattle.bounded_keys.specs.Runs.{AreShort}
use Rattle.bounded_keys.proofs.Kepts.{Keeps-contenders, among_filter, not_twice}
use Rattle.bounded_keys.proofs.RunLemmas.{runs_among}
use Rattle.bounded_keys.proofs.contenders.Contenders.into_contenders.Goals as goal

pub returns-clause-contenders : goal.returns-clause-contenders
returns-clause-contenders g c = λ all h.
    let b = c.self.inside in
    let t = c.threshold_of-threshold.result in
    let kept = subst (IsKept g.T.Ord.cmp g.T.Leading.number g.T.Leading.before all) (sym c.self.view_is) h in
    let both : c.append.new.self.items ≡ heap_items b.heap ++ b.near.items.items = search rules in
    let made = c.drop_above.ensures ∙ ap (filter (λ x. not (beats t (g.T.Leading.number x)))) both in
    let runs = c.in_ok-runs.runs in
    let now = Keeps-contenders g.T.Ord.cmp g.met.T.Ord.total g.T.Leading.number g.met.T.Leading.by_number b.most b.scale g.T.Leading.before all (heap_items b.heap) b.near.items.items t
    c.threshold_of-threshold.ensures kept runs.run runs.full.items c.drop_above.new.items.items runs.items.items made c.in_ok-runs.ensures in
    subst (λ (v : Kept g.row.T.Denot). AreContenders g.T.Leading.number v.scale g.T.Leading.before v.most all runs.items.items) c.self.view_is now

pub returns-clause-among : goal.returns-clause-among
returns-clause-among g c =
    let b = c.self.inside in
    let t = c.threshold_of-threshold.result in
    let both : c.append.new.self.items ≡ heap_items b.heap ++ b.near.items.items = search rules in
    let made = c.drop_above.ensures ∙ ap (filter (λ x. not (beats t (g.T.Leading.number x)))) both in
    let stay = among_filter (λ x. not (beats t (g.T.Leading.number x))) (λ x. beats t (g.T.Leading.number x)) (λ x. sym (not_twice (beats t (g.T.Leading.number x)))) (heap_items b.heap ++ b.near.items.items) in
    let runs = c.in_ok-runs.runs in
    let now = runs_among g.T.Leading.before b.most runs.run runs.full.items c.drop_above.new.items.items runs.items.items (heap_items b.heap ++ b.near.items.items) c.in_ok-runs.ensures
    (subst (λ ys. AreAmong ys (heap_items b.heap ++ b.near.items.items)) (sym made) stay) in
    subst (λ (v : Kept g.row.T.Denot). AreAmong runs.items.items (v.held ++ v.near)) c.self.view_is now

pub returns-clause-short : goal.returns-clause-short
returns-clause-short g c =
    subst (λ (v : Kept g.row.T.Denot). AreShort g.T.Leading.before v.most c.in_ok-runs.runs.items.items) c.self.view_is c.in_ok-runs.ensures.short
