-- Keys that aren't below a number.
use Rattle.std.specs.Prelude.{◌≤◌, ℕ, All, Contains, List, length}
use Rattle.log_chain.specs.declared.chain.TheConstants.{FIRST}
use Rattle.ri_base.specs.Documents.{Document}
use Rattle.ri_base.specs.Pair.{Pair}
use Rattle.ri_base.specs.Ratio.{IsBelief}
use Rattle.smoothing.specs.declared.rule.RuleKind.{RuleKind}
use Rattle.belief_nodes.specs.Keys.{key_at}
use Rattle.belief_nodes.specs.Network.{NetworkTree}
use Rattle.belief_nodes.specs.Priors.{Prior}
use Rattle.windows.specs.Windows.{windows}
use Rattle.range_bounds.specs.Bounds.{beliefs_in}

-- the beliefs in a window of a document are such, and their key at the first level is at least a number
pub record IsWindowFrom (kind : RuleKind) (priors : List Prior) (network : NetworkTree) (least : ℕ) (d : Document) (w : Pair) : Type 0 where
  pub beliefs : All IsBelief (beliefs_in kind priors d w network.leaves network.stats)
  pub leads : least ≤ key_at FIRST (beliefs_in kind priors d w network.leaves network.stats) network.tree

-- so it is in each of its windows
abbrev pub AreFrom : RuleKind → List Prior → NetworkTree → ℕ → Document → Type 0
AreFrom kind priors network least d = (w : Pair) → Contains (windows network.range (length d.tokens) d.fields) w → IsWindowFrom kind priors network least d w
