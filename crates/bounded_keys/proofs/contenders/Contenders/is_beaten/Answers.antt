use Rattle.std.proofs.Common.{◌≡◌, ◌++◌, subst, sym, ◌∙◌}
use Rattle.std.specs.BinaryHeap.{heap_items}
use Rattle.bounded_keys.specs.Kept.{IsKept, is_beaten_by}
use Rattle.bounded_keys.proofs.Kepts.{Keeps-beaten, Keeps-skipped}
use Rattle.bounded_keys.proofs.contenders.Contenders.is_beaten.Goals as goal

pub returns-clause-exact : goal.returns-clause-exact
returns-clause-exact g c = λ all h.
    let b = c.self.inside in
    let kept = subst (IsKept g.T.Ord.cmp g.T.Leading.number g.T.Leading.before all) (sym c.self.view_is) h in
    let now = c.beats.ensures ∙ sym (c.threshold_of.ensures c.args.number) ∙ sym (Keeps-beaten g.T.Ord.cmp g.met.T.Ord.total g.T.Leading.number g.met.T.Leading.by_number b.most b.scale g.T.Leading.before all (heap_items b.heap) b.near.items.items c.args.number kept) in
    subst (λ v. c.beats.result ≡ is_beaten_by g.T.Leading.number v.scale v.most all c.args.number) c.self.view_is now

pub returns-clause-skipped : goal.returns-clause-skipped
returns-clause-skipped g c = λ e all more h above.
    let b = c.self.inside in
    let kept = subst (IsKept g.T.Ord.cmp g.T.Leading.number g.T.Leading.before all) (sym c.self.view_is) h in
    let beaten = Keeps-beaten g.T.Ord.cmp g.met.T.Ord.total g.T.Leading.number g.met.T.Leading.by_number b.most b.scale g.T.Leading.before all (heap_items b.heap) b.near.items.items c.args.number kept ∙ c.threshold_of.ensures c.args.number ∙ sym c.beats.ensures ∙ e in
    subst (IsKept g.T.Ord.cmp g.T.Leading.number g.T.Leading.before (more ++ all)) c.self.view_is
    (Keeps-skipped g.T.Ord.cmp g.met.T.Ord.total g.T.Leading.number g.met.T.Leading.by_number b.most b.scale g.T.Leading.before all (heap_items b.heap) b.near.items.items more c.args.number beaten above kept)
