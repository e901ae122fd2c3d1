use Rattle.std.proofs.Common.{arith, IfOk, List, length, map, ap, subst, ◌≡◌, ◌∙◌}
use Rattle.ri_base.specs.Ratio.{ratio_of}
use Rattle.ri_base.specs.declared.fraction.Fraction.{Fraction}
use Rattle.belief_nodes.specs.Network.{network_tree}
use Rattle.bounded_keys.specs.Digits.{belief}
use Rattle.bounded_keys.specs.declared.entry.Entry.{Entry}
use Rattle.ranker.specs.declared.window.Window.{Window}
use Rattle.ranker.proofs.RankingLemmas.{early_made}
use Rattle.ranker.proofs.entries.early_of.Goals as goal

pub new-requires : goal.new-requires
new-requires g c = ap length c.as_slice.ensures ∙ c.requires

pub returns-clause-cost : goal.returns-clause-cost
returns-clause-cost g c = let w = c.new.ensures.within in omega (arith, w)

pub returns-clause-entry : goal.returns-clause-entry
returns-clause-entry g c =
    early_made (network_tree c.args.network.now) c.args.row c.new.result c.new.ensures.window
    (subst (λ (fs : List Fraction). IfOk c.new.result (λ (x : Entry Window). map belief x.leaves ≡ map ratio_of fs)) c.as_slice.ensures c.new.ensures.beliefs) c.new.ensures.early
