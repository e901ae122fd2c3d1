use Rattle.std.proofs.Common.{rules, ◌<◌, length, ap, sym, ◌∙◌}
use Rattle.std.specs.BinaryHeap.{heap_items}
use Rattle.bounded_keys.specs.Kept.{beats}
use Rattle.bounded_keys.proofs.Kepts.{none_held, room_beats_none, top_beats}
use Rattle.bounded_keys.proofs.contenders.threshold_of.Goals as goal

pub returns-then-len-most : goal.returns-then-len-most
returns-then-len-most g c = λ n. room_beats_none g.T.Ord.cmp g.met.T.Ord.total g.T.Leading.number g.met.T.Leading.by_number c.args.most c.args.scale (heap_items c.args.heap.now) n (search rules)

pub returns-in-Some : goal.returns-in-Some
returns-in-Some g c = λ n.
    let some : 0 < length (heap_items c.args.heap.now) = search rules in
    top_beats g.T.Ord.cmp g.met.T.Ord.total g.T.Leading.number g.met.T.Leading.by_number c.args.most c.args.scale (heap_items c.args.heap.now) c.in-Some.greatest.now _ n (search rules) some c.in-Some.ensures.lookup
    (c.in-Some.ensures.greatest c.requires.order) c.leading.ensures
    ∙ ap (λ t. beats t n) (sym c.behind.ensures)

pub returns-in-None : goal.returns-in-None
returns-in-None g c = λ n. none_held g.T.Ord.cmp g.met.T.Ord.total g.T.Leading.number g.met.T.Leading.by_number c.args.most c.args.scale (heap_items c.args.heap.now) n (search rules)
