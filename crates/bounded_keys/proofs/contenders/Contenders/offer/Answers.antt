use Rattle.std.proofs.Common.{rules, ◌++◌, ◌∷◌, subst, sym}
use Rattle.std.specs.List.Sorted.{IsPermutation}
use Rattle.std.specs.BinaryHeap.{heap_items}
use Rattle.bounded_keys.specs.Kept.{AreAmong, IsKept, Kept}
use Rattle.bounded_keys.proofs.Kepts.{Keeps-more, Keeps-offered, among_more, among_swapped}
use Rattle.bounded_keys.proofs.contenders.Contenders.offer.Goals as goal

pub returns-then-len-self-clause-kept : goal.returns-then-len-self-clause-kept
returns-then-len-self-clause-kept g c = λ all h.
    let b = c.self.inside in
    let pushed = subst (λ xs. IsPermutation (c.args.item ∷ xs) (heap_items c.push.new.self)) c.make_room.ensures.items c.in_ok-push.ensures.permutation in
    let kept = subst (IsKept g.T.Ord.cmp g.T.Leading.number g.T.Leading.before all) (sym c.self.view_is) h in
    Keeps-more g.T.Ord.cmp g.met.T.Ord.total g.T.Leading.number g.met.T.Leading.by_number b.most b.scale g.T.Leading.before all (heap_items b.heap) b.near.items.items _ c.args.item (search rules) pushed kept

pub returns-clause-kept : goal.returns-clause-kept
returns-clause-kept g c = λ all h.
    let b = c.self.inside in
    let kept = subst (IsKept g.T.Ord.cmp g.T.Leading.number g.T.Leading.before all) (sym c.self.view_is) h in
    Keeps-offered g.T.Ord.cmp g.met.T.Ord.total g.T.Leading.number g.met.T.Leading.by_number b.most b.scale g.T.Leading.before all (heap_items b.heap) b.near.items.items (heap_items c.displaced-other.new.heap) c.keep.new.self.items.items
    c.args.item c.displaced-other.result c.threshold_of-threshold.result c.threshold_of-threshold.ensures (λ others f. c.displaced-other.ensures.apart b.most all others (search rules) f) c.in_ok-keep.ensures.left kept

pub returns-then-len-self-clause-among : goal.returns-then-len-self-clause-among
returns-then-len-self-clause-among g c =
    let b = c.self.inside in
    let pushed = subst (λ xs. IsPermutation (c.args.item ∷ xs) (heap_items c.push.new.self)) c.make_room.ensures.items c.in_ok-push.ensures.permutation in
    subst (λ (v : Kept g.row.T.Denot). AreAmong (heap_items c.push.new.self ++ b.near.items.items) (c.args.item ∷ (v.held ++ v.near))) c.self.view_is
    (among_more (heap_items b.heap) b.near.items.items _ c.args.item pushed)

pub returns-clause-among : goal.returns-clause-among
returns-clause-among g c =
    let b = c.self.inside in
    subst (λ (v : Kept g.row.T.Denot). AreAmong (heap_items c.displaced-other.new.heap ++ c.keep.new.self.items.items) (c.args.item ∷ (v.held ++ v.near))) c.self.view_is
    (among_swapped g.T.Leading.number g.T.Leading.before b.most c.threshold_of-threshold.result (heap_items b.heap) b.near.items.items (heap_items c.displaced-other.new.heap) c.keep.new.self.items.items c.args.item c.displaced-other.result
    c.displaced-other.ensures.same c.in_ok-keep.ensures.left)
