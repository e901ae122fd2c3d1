use Rattle.std.proofs.Common.{◌≡◌, [], ◌∷◌, ◌++◌, append_assoc, ap, ◌∙◌, rules}
use Rattle.bounded_keys.proofs.Kepts.{among_step}
use Rattle.bounded_keys.proofs.contenders.Contenders.offer_all.Goals as goal

pub loop-item-preserved : goal.loop-item-preserved
loop-item-preserved g c =
    let popped : c.loop-item.items.items ≡ c.pop.new.self.items ++ c.in-Some.item ∷ [] = search rules in
    record {
      most = c.offer.ensures.most ∙ c.loop-item.invariant.most;
      scale = c.offer.ensures.scale ∙ c.loop-item.invariant.scale;
      kept = λ all h.
          let before = c.loop-item.invariant.kept all h in
          (c.in-Some.item ∷ before.0, before.1 ∙ ap (λ xs. xs ++ before.0) popped ∙ append_assoc c.pop.new.self.items (c.in-Some.item ∷ []) before.0, c.in_ok-offer.ensures.kept (before.0 ++ all) before.2);
      among =
          let before = c.loop-item.invariant.among in (
            c.in-Some.item ∷ before.0,
            before.1 ∙ ap (λ xs. xs ++ before.0) popped ∙ append_assoc c.pop.new.self.items (c.in-Some.item ∷ []) before.0,
            among_step _ _ _ c.in-Some.item c.in_ok-offer.ensures.among before.2,
          );
    }
