use Rattle.std.proofs.Common.{◌≡◌, IfOk, List, map, subst, arith}
use Rattle.log_chain.specs.declared.chain.TheConstants.{FIRST}
use Rattle.ri_base.specs.Ratio.{ratio_of}
use Rattle.ri_base.specs.declared.fraction.Fraction.{Fraction}
use Rattle.belief_nodes.specs.Keys.{digits_at}
use Rattle.belief_nodes.specs.Network.{network_tree}
use Rattle.ranker.specs.First.{key_by}
use Rattle.range_bounds.proofs.Leads.{each_told}
use Rattle.ranker.proofs.LeastLemmas.{AreFrom-key}
use Rattle.ranker.proofs.RangeKeyLemmas.{key-is}
use Rattle.ranker.proofs.bound.least_key.Goals as goal

pub returns-clause-least : goal.returns-clause-least
returns-clause-least g c = λ docs d is_table has.
    let kind = c.args.rule.now.kind in
    let priors = map (λ b. (goal.BeliefNode-dyn g (b.vtable, b.value)).meaning b.value) c.args.plugs.now in
    let network = network_tree c.args.network.now in
    AreFrom-key kind priors network d c.in_ok-bounds.bounds c.leading_key.result
    (subst (λ (fs : List Fraction). IfOk c.leading_key.result (λ key. key ≡ key_by network (digits_at FIRST (map ratio_of fs)))) c.as_slice.ensures c.leading_key.ensures.key)
    (λ w is. c.in_ok-bounds.ensures.beliefs docs d w is_table has is) (λ w is. c.in_ok-bounds.ensures.keys docs d w FIRST is_table has is)

pub returns-clause-key : goal.returns-clause-key
returns-clause-key g c = λ docs is_table.
    let kind = c.args.rule.now.kind in
    let plugs = c.args.plugs.now in
    let network = network_tree c.args.network.now in
    key-is kind _ network docs c.args.range c.in_ok-bounds.bounds c.leading_key.result (each_told _ plugs (λ b. (g.dyn-1-met b.vtable).0.beliefs b.value))
    (subst (λ (fs : List Fraction). IfOk c.leading_key.result (λ key. key ≡ key_by network (digits_at FIRST (map ratio_of fs)))) c.as_slice.ensures c.leading_key.ensures.key)
    (c.in_ok-bounds.ensures.exact docs is_table)

pub returns-clause-cost : goal.returns-clause-cost
returns-clause-cost g c = let w = c.leading_key.ensures.within in omega (arith, w)
