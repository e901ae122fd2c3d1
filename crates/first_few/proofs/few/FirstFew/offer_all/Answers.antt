use Rattle.std.proofs.Common.{◌≡◌, [], ◌∷◌, ◌++◌, append_assoc, ap, subst, ◌∙◌, rules}
use Rattle.first_few.specs.First.{AreFirst}
use Rattle.first_few.proofs.few.FirstFew.offer_all.Goals as goal

pub loop-item-preserved : goal.loop-item-preserved
loop-item-preserved g c = record {
  most = c.offer.ensures.most ∙ c.loop-item.invariant.most;
  first = λ all f.
      let before = c.loop-item.invariant.first all f in
      let popped : c.loop-item.items.items ≡ c.pop.new.self.items ++ c.in-Some.item ∷ [] = search rules in
      let on = subst (λ k. AreFirst g.T.Ord.cmp k (before.0 ++ all) c.loop-item.self.held → AreFirst g.T.Ord.cmp k (c.in-Some.item ∷ before.0 ++ all) c.offer.new.self.held) c.loop-item.invariant.most (c.in_ok-offer.ensures.first (before.0 ++ all)) in
      (c.in-Some.item ∷ before.0, before.1 ∙ ap (λ xs. xs ++ before.0) popped ∙ append_assoc c.pop.new.self.items (c.in-Some.item ∷ []) before.0, on before.2);
}
