use Rattle.std.proofs.Common.{rules, arith, ◌≡◌, ◌+◌, [], ◌∷◌, ◌++◌, append_assoc, List, map, length, ap, subst, ◌∙◌}
use Rattle.std.proofs.lemmas.List.{length-append}
use Rattle.belief_nodes.specs.Network.{network_tree}
use Rattle.bounded_keys.specs.Kept.{AreAmong}
use Rattle.bounded_keys.specs.declared.entry.Entry.{Entry}
use Rattle.bounded_keys.proofs.Kepts.{among_step}
use Rattle.document_scoring.specs.declared.scoring.Row.{Row}
use Rattle.ranker.specs.First.{WereOffered, early_cost, early_of}
use Rattle.ranker.specs.declared.window.Window.{Window}
use Rattle.ranker.proofs.Lists.{All-front, All-last}
use Rattle.ranker.proofs.PassedLemmas.{cost-sum}
use Rattle.ranker.proofs.entries.offer_rows.Goals as goal

pub early_of-requires : goal.early_of-requires
early_of-requires g c =
    let popped : c.loop-row.rows.items ≡ c.pop.new.self.items ++ c.in-Some.row ∷ [] = search rules in
    All-last (λ (row : Row). length row.fractions ≡ length (network_tree c.args.network.now).leaves) c.loop-row.rows.items c.pop.new.self.items c.in-Some.row popped c.loop-row.invariant.each

pub loop-row-preserved : goal.loop-row-preserved
loop-row-preserved g c =
    let row = c.in-Some.row in
    let network = network_tree c.args.network.now in
    let early : Row → Entry Window = early_of (network_tree c.args.network.now) in
    let rest = c.pop.new.self.items in
    let popped : c.loop-row.rows.items ≡ rest ++ row ∷ [] = search rules in
    record {
      most = c.offer.ensures.most ∙ c.loop-row.invariant.most;
      scale = c.offer.ensures.scale ∙ c.loop-row.invariant.scale;
      spent =
          let long : length c.loop-row.rows.items ≡ length rest + 1 = ap length popped ∙ length-append rest (row ∷ []) in
          let before = c.loop-row.invariant.spent in
          let one = c.in_ok-entry.ensures.exact in
          let sum = cost-sum network (length rest) 1 in
          let was : early_cost network (length c.loop-row.rows.items) ≡ early_cost network (length rest + 1) = ap (early_cost network) long in
          omega (arith, before, one, sum, was);
      each = All-front (λ (row : Row). length row.fractions ≡ length (network_tree c.args.network.now).leaves) c.loop-row.rows.items rest row popped c.loop-row.invariant.each;
      offered = λ all h.
          let before = c.loop-row.invariant.offered all h in (
            row ∷ before.0,
            before.1 ∙ ap (λ (rs : List Row). rs ++ before.0) popped ∙ append_assoc rest (row ∷ []) before.0,
            subst (λ (x : Entry Window). WereOffered (x ∷ (map early before.0 ++ all)) c.offer.new.self) c.in_ok-entry.ensures.entry (c.in_ok-offer.ensures.kept (map early before.0 ++ all) before.2),
          );
      among =
          let before = c.loop-row.invariant.among in
          let near : List (Entry Window) = c.args.first.now.held ++ c.args.first.now.near in
          let item : AreAmong (c.offer.new.self.held ++ c.offer.new.self.near) (early row ∷ (c.loop-row.first.held ++ c.loop-row.first.near)) =
          subst (λ (x : Entry Window). AreAmong (c.offer.new.self.held ++ c.offer.new.self.near) (x ∷ (c.loop-row.first.held ++ c.loop-row.first.near))) c.in_ok-entry.ensures.entry c.in_ok-offer.ensures.among in (
            row ∷ before.0,
            before.1 ∙ ap (λ (rs : List Row). rs ++ before.0) popped ∙ append_assoc rest (row ∷ []) before.0,
            among_step _ _ _ (early row) item before.2,
          );
    }
