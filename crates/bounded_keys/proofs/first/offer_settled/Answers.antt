use Rattle.std.proofs.Common.{rules, ◌≡◌, ◌*◌, [], ◌∷◌, ◌++◌, append_assoc, map, ap, subst, sym, ◌∙◌}
use Rattle.first_few.specs.First.{AreFirst}
use Rattle.bounded_keys.specs.Entries.{by_key, settled}
use Rattle.bounded_keys.proofs.Taken.{cost_more}
use Rattle.bounded_keys.proofs.first.offer_settled.Goals as goal

pub loop-entry-preserved : goal.loop-entry-preserved
loop-entry-preserved g c =
    let before = c.loop-entry.invariant.taken in
    let x = c.in-Some.entry in
    let key = g.C.Combination.key_of c.args.combination.now in
    let popped : c.loop-entry.entries.items ≡ c.pop.new.self.items ++ x ∷ [] = search rules in
    record {
      most = c.offer.ensures.most ∙ c.loop-entry.invariant.most;
      taken = (
        x ∷ before.0,
        before.1 ∙ ap (λ xs. xs ++ before.0) popped ∙ append_assoc c.pop.new.self.items (x ∷ []) before.0,
        cost_more c.args.squares.now (28 * g.C.Combination.leaves c.args.combination.now) x before.0 c.loop-entry.squares c.settle.new.squares before.2 c.settle.ensures.cost,
        λ all f.
            let held = subst (λ k. AreFirst (by_key g.W.Ord.cmp) k (map (settled key) before.0 ++ all) c.loop-entry.first.held) (sym c.loop-entry.invariant.most) (before.3 all f) in
            let more = c.in_ok-offer.ensures.first (map (settled key) before.0 ++ all) held in
            let now = subst (λ k. AreFirst (by_key g.W.Ord.cmp) k (c.in_ok-settle.field-0 ∷ (map (settled key) before.0 ++ all)) c.offer.new.self.held) c.loop-entry.invariant.most more in
            subst (λ y. AreFirst (by_key g.W.Ord.cmp) c.args.first.now.most (y ∷ (map (settled key) before.0 ++ all)) c.offer.new.self.held) c.in_ok-settle.ensures.settled now,
      );
    }
