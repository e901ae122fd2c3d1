use Rattle.std.proofs.Common.{◌≡◌, nat_lt, refl, ap, sym, ◌∙◌, arith}
use Rattle.ri_base.specs.Query.{is_range}
use Rattle.belief_nodes.specs.Network.{NetworkTree, network_tree}
use Rattle.ranker.specs.First.{scale_of}
use Rattle.ranker.specs.Passed.{nothing_known}
use Rattle.ranker.specs.declared.spent.Spent.{Spent}
use Rattle.ranker.proofs.AheadLemmas.{IsKnown-nothing, IsKnown-on}
use Rattle.ranker.proofs.search.Search.new.Goals as goal

pub returns-clause-taken : goal.returns-clause-taken
returns-clause-taken c = λ kind priors told tables. record {
  held = c.first_held-held.ensures.held kind priors _ (network_tree c.in_ok-network.network) (c.args.checked.kept.whole ∙ ap (λ (n : NetworkTree). scale_of n) (sym c.in_ok-network.ensures));
  ahead = record { here = IsKnown-on kind priors _ _ _ 0 _ 0 0 nothing_known c.nothing-2.result (omega arith) (omega arith) c.nothing-2.ensures (IsKnown-nothing kind priors _ _ _ 0 _ (tables 0)); each = tables };
  blocks = c.nothing.ensures.answers _;
}

pub invariant_of-result : goal.invariant_of-result
invariant_of-result c = record {
  shown = ap (λ (n : NetworkTree). is_range n.range) c.in_ok-network.ensures ∙ c.args.checked.kept.within.sound_range;
  fits = c.nothing.ensures.fits _;
  count = λ told. c.from.ensures ∙ c.live_count-live_count.ensures told;
  place = record { part = omega arith; id = omega arith; credit = λ told. refl };
  next = λ usable. record { from = omega arith; left = omega arith; ids = omega arith; bare = λ docs lt. absurd (omega (arith, lt)) };
  «open» = λ usable told. c.first_held-held.ensures.open ∙ ap (nat_lt 0) (c.live_count-live_count.ensures told);
  entries = λ usable. c.first_held-held.ensures.entries (network_tree c.in_ok-network.network) (c.args.checked.kept.whole ∙ ap (λ (n : NetworkTree). scale_of n) (sym c.in_ok-network.ensures));
  windows = λ usable told. ∣ c.first_held-held.ensures.windows _ _ ∣₁;
}

pub returns-clause-spent : goal.returns-clause-spent
returns-clause-spent c = λ kind priors told.
    let squared : c.nothing-3.result.squared ≡ 0 = ap (λ (n : Spent). n.squared) c.nothing-3.ensures in
    let opened : c.nothing-3.result.opened ≡ 0 = ap (λ (n : Spent). n.opened) c.nothing-3.ensures in
    record { squares = omega (arith, squared); blocks = omega (arith, opened) }
