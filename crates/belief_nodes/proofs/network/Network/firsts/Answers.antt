use Rattle.std.proofs.Common.{ℕ, List, ap, length, sym, ◌∙◌}
use Rattle.std.proofs.lemmas.List.{length-map}
use Rattle.query_check.specs.Leaves.{leaf_tree}
use Rattle.belief_nodes.proofs.network.Network.firsts.Goals as goal

pub returns : goal.returns
returns c = ap (λ (ns : List ℕ). length ns) c.deref.ensures.value ∙ c.args.self.now.each ∙ sym (length-map c.args.self.now.leaves.items leaf_tree)
