use Rattle.std.proofs.Common.{◌≡◌, true, subst, sym}
use Rattle.std.specs.BinaryHeap.{heap_items}
use Rattle.std.specs.Ordering.{is_lt}
use Rattle.std.proofs.lemmas.List.Sorted.{IsPermutation-refl}
use Rattle.bounded_keys.proofs.Aparts.{apart_kept, apart_swapped, swapped_same}
use Rattle.bounded_keys.proofs.contenders.displaced.Goals as goal

pub returns-then-comes_first-clause-apart : goal.returns-then-comes_first-clause-apart
returns-then-comes_first-clause-apart g c = λ k all others long f.
    let m = c.exchanged.ensures.moved in
    let less = subst (λ y. is_lt (g.T.Ord.cmp c.args.item y) ≡ true) (sym c.exchanged.ensures.top) ((c.comes_first.ensures.yes c.if-comes_first.true).1 c.exchanged.result) in
    apart_swapped g.T.Ord.cmp g.met.T.Ord.total k all (heap_items c.args.heap.now) m.0 (heap_items c.exchanged.new.heap) others c.exchanged.result c.args.item long m.1 c.exchanged.ensures.greatest less m.2 f

pub returns-else-comes_first-clause-apart : goal.returns-else-comes_first-clause-apart
returns-else-comes_first-clause-apart g c = λ k all others long f.
    apart_kept g.T.Ord.cmp g.met.T.Ord.total k all (heap_items c.args.heap.now) others c.args.item long (c.comes_first.ensures.no c.if-comes_first.false) f

pub returns-then-comes_first-clause-same : goal.returns-then-comes_first-clause-same
returns-then-comes_first-clause-same g c =
    let m = c.exchanged.ensures.moved in
    swapped_same g.T.Ord.cmp g.met.T.Ord.total (heap_items c.args.heap.now) m.0 (heap_items c.exchanged.new.heap) c.exchanged.result c.args.item m.1 m.2

pub returns-else-comes_first-clause-same : goal.returns-else-comes_first-clause-same
returns-else-comes_first-clause-same g c = IsPermutation-refl _
