use Rattle.std.proofs.Common.{◌≡◌, ap, subst, sym}
use Rattle.std.specs.BinaryHeap.{heap_items}
use Rattle.first_few.specs.First.{AreFirst, Few}
use Rattle.first_few.proofs.FirstLemmas.{AreFirst-moved, IsFront-held}
use Rattle.first_few.proofs.few.FirstFew.into_sorted.Goals as goal

pub returns : goal.returns
returns g c = λ all f.
    let held : heap_items c.self.inside.heap ≡ c.args.self.held = ap (λ (v : Few g.row.T.Denot). v.held) c.self.view_is in
    let now = subst (AreFirst g.T.Ord.cmp c.args.self.most all) (sym held) f in
    IsFront-held _ g.met.T.Ord.total _ all _ (AreFirst-moved _ _ all _ _ c.into_sorted_vec.ensures.permutation now) (c.into_sorted_vec.ensures.sorted c.self.invariant)
