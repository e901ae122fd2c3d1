-- A number that the keys of the candidates of a document aren't below.
use Rattle.std.proofs.Common.{◌≡◌, ◌≤◌, ℕ, IfOk, Result, Ok, Err, List, Contains, length, map, sym, subst}
use Rattle.std.specs.List.{All}
use Rattle.log_chain.specs.declared.chain.TheConstants.{FIRST}
use Rattle.ri_base.specs.Documents.{Document}
use Rattle.ri_base.specs.Pair.{Pair}
use Rattle.ri_base.specs.Ratio.{IsBelief, ratio_of}
use Rattle.ri_base.specs.declared.fraction.Fraction.{Fraction}
use Rattle.smoothing.specs.declared.rule.RuleKind.{RuleKind}
use Rattle.belief_nodes.specs.Keys.{digits_at, key_at}
use Rattle.belief_nodes.specs.Network.{NetworkTree}
use Rattle.belief_nodes.specs.Priors.{Prior}
use Rattle.windows.specs.Windows.{windows}
use Rattle.range_bounds.specs.Bounds.{beliefs_in}
use Rattle.ranker.specs.First.{key_by}
use Rattle.ranker.specs.Least.{AreFrom}

module _ (kind : RuleKind) (priors : List Prior) (network : NetworkTree) (d : Document) where
  abbrev In : Pair → Type 0
  In w = Contains (windows network.range (length d.tokens) d.fields) w

  -- the key of bounds
  pub AreFrom-key : {E : Type 0} (bounds : List Fraction) (key : Result ℕ E) → IfOk key (λ k. k ≡ key_by network (digits_at FIRST (map ratio_of bounds)))
      → ((w : Pair) → In w → All IsBelief (beliefs_in kind priors d w network.leaves network.stats))
      → ((w : Pair) → In w → key_at FIRST (map ratio_of bounds) network.tree ≤ key_at FIRST (beliefs_in kind priors d w network.leaves network.stats) network.tree)
      → IfOk key (λ k. AreFrom kind priors network k d)
  AreFrom-key bounds (Ok k) is beliefs keys = λ w inside. record {
    beliefs = beliefs w inside;
    leads = subst (λ n. n ≤ key_at FIRST (beliefs_in kind priors d w network.leaves network.stats) network.tree) (sym is) (keys w inside);
  }
  AreFrom-key bounds (Err e) is beliefs keys = tt
