use Rattle.std.proofs.Common.{rules, ◌<◌, length}
use Rattle.std.specs.BinaryHeap.{heap_items}
use Rattle.bounded_keys.proofs.Kepts.{before_top, not_before_top}
use Rattle.bounded_keys.proofs.contenders.comes_first.Goals as goal

pub returns-in-Some-clause-yes : goal.returns-in-Some-clause-yes
returns-in-Some-clause-yes g c = λ e.
    let some : 0 < length (heap_items c.args.heap.now) = search rules in (
      search rules,
      before_top g.T.Ord.cmp g.met.T.Ord.total g.T.Leading.number g.met.T.Leading.by_number (heap_items c.args.heap.now) c.args.item.now c.in-Some.greatest.now _ _ c.leading.ensures c.leading-in-Some.ensures
          some c.in-Some.ensures.lookup e,
    )

pub returns-in-Some-clause-no : goal.returns-in-Some-clause-no
returns-in-Some-clause-no g c = λ e.
    not_before_top g.T.Ord.cmp g.met.T.Ord.total g.T.Leading.number g.met.T.Leading.by_number (heap_items c.args.heap.now) c.args.item.now c.in-Some.greatest.now _ _ c.leading.ensures c.leading-in-Some.ensures
    e (c.in-Some.ensures.greatest c.requires.order)
