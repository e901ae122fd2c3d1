use Rattle.std.proofs.Common.{◌≡◌, ◌<◌, ◌≤◌, ◌∷◌, length, true, ap, subst, sym, rules}
use Rattle.std.specs.BinaryHeap.{heap_items}
use Rattle.std.specs.Ordering.{is_lt}
use Rattle.first_few.specs.First.{AreFirst, Few}
use Rattle.first_few.proofs.FirstLemmas.{AreFirst-kept, AreFirst-more, AreFirst-moved, AreFirst-replaced}
use Rattle.first_few.proofs.few.FirstFew.offer.Goals as goal

pub returns-then-len-self-clause-first : goal.returns-then-len-self-clause-first
returns-then-len-self-clause-first g c = λ all f.
    let most : c.self.inside.most ≡ c.args.self.now.most = ap (λ (v : Few g.row.T.Denot). v.most) c.self.view_is in
    let held : heap_items c.self.inside.heap ≡ c.args.self.now.held = ap (λ (v : Few g.row.T.Denot). v.held) c.self.view_is in
    let now = subst (AreFirst g.T.Ord.cmp c.args.self.now.most all) (sym held) f in
    let room : length (heap_items c.self.inside.heap) < c.self.inside.most = search rules in
    AreFirst-moved _ _ _ _ _ c.in_ok-push.ensures.permutation (AreFirst-more _ _ all _ _ (subst (λ n. length (heap_items c.self.inside.heap) < n) most room) now)

pub returns-in_ok-push-2-clause-first : goal.returns-in_ok-push-2-clause-first
returns-in_ok-push-2-clause-first g c = λ all f.
    let most : c.self.inside.most ≡ c.args.self.now.most = ap (λ (v : Few g.row.T.Denot). v.most) c.self.view_is in
    let held : heap_items c.self.inside.heap ≡ c.args.self.now.held = ap (λ (v : Few g.row.T.Denot). v.held) c.self.view_is in
    let now = subst (AreFirst g.T.Ord.cmp c.args.self.now.most all) (sym held) f in
    let full : c.self.inside.most ≤ length (heap_items c.self.inside.heap) = search rules in
    let top = c.drop_greatest.ensures.greatest in
    AreFirst-replaced _ g.met.T.Ord.total _ all _ _ _ top.0 _ (subst (λ n. n ≤ length (heap_items c.self.inside.heap)) most full) top.2 top.3
    (subst (λ y. is_lt (g.T.Ord.cmp c.args.item y) ≡ true) (sym top.1) ((c.comes_first-better.ensures.yes c.if-better.true).1 top.0)) c.in_ok-push-2.ensures.permutation now

pub returns-else-better-clause-first : goal.returns-else-better-clause-first
returns-else-better-clause-first g c = λ all f.
    let most : c.self.inside.most ≡ c.args.self.now.most = ap (λ (v : Few g.row.T.Denot). v.most) c.self.view_is in
    let held : heap_items c.self.inside.heap ≡ c.args.self.now.held = ap (λ (v : Few g.row.T.Denot). v.held) c.self.view_is in
    let now = subst (AreFirst g.T.Ord.cmp c.args.self.now.most all) (sym held) f in
    let full : c.self.inside.most ≤ length (heap_items c.self.inside.heap) = search rules in
    subst (AreFirst g.T.Ord.cmp c.args.self.now.most (c.args.item ∷ all)) held
    (AreFirst-kept _ _ all _ _ (subst (λ n. n ≤ length (heap_items c.self.inside.heap)) most full) (c.comes_first-better.ensures.no c.if-better.false) now)
