-- A row as the candidate that it stands for, and the rows of a document.
use Rattle.std.specs.Prelude.{◌≡◌, ◌++◌, ◌∷◌, ℕ, [], All, List, filter, map}
use Rattle.ri_base.specs.Documents.{Document}
use Rattle.ri_base.specs.Pair.{Pair}
use Rattle.ri_base.specs.Query.{FilterTree}
use Rattle.ri_base.specs.Ratio.{ratio_of}
use Rattle.smoothing.specs.declared.rule.RuleKind.{RuleKind}
use Rattle.belief_nodes.specs.Fractions.{leaf_fractions}
use Rattle.belief_nodes.specs.Network.{NetworkTree}
use Rattle.belief_nodes.specs.Priors.{Prior}
use Rattle.belief_nodes.specs.declared.leaf_count.LeafCount.{LeafCount}
use Rattle.document_scoring.specs.Candidates.{Candidate, IsWindowOf, candidates, some_occurs}
use Rattle.document_scoring.specs.declared.scoring.Row.{Row}

abbrev pub row_candidate : Row → Candidate
row_candidate r = record { docno = r.docno; begin = r.begin; end = r.end; beliefs = map ratio_of r.fractions }

-- behind the rows of before stand those of the document's candidates
pub record Adds (kind : RuleKind) (priors : List Prior) (filters : List FilterTree) (network : NetworkTree) (d : Document) (before now : List Row) : Type 0 where
  pub more : List Row
  pub behind : now ≡ before ++ more
  pub candidates : map row_candidate more ≡ candidates kind priors filters network (d ∷ [])

-- a window as a candidate, by the counts of the leaves in it
abbrev pub window_candidate : RuleKind → List Prior → NetworkTree → List ℕ → ℕ → List LeafCount → Pair → Candidate
window_candidate kind priors network docno tokens counts w = record {
  docno = docno;
  begin = w.begin;
  end = w.end;
  beliefs = leaf_fractions kind priors docno tokens network.leaves counts network.stats;
}

-- behind the rows of before stand those of the windows in which some leaf occurs, in their order, in a document of this
-- docno and so many tokens, by the counts of the leaves in each window
pub record AddsWindows (kind : RuleKind) (priors : List Prior) (network : NetworkTree) (docno : List ℕ) (tokens : ℕ) (counts : Pair → List LeafCount) (windows : List Pair) (before now : List Row) : Type 0 where
  pub more : List Row
  pub behind : now ≡ before ++ more
  pub candidates : map row_candidate more
      ≡ map (λ w. window_candidate kind priors network docno tokens (counts w) w) (filter (λ w. some_occurs (counts w)) windows)

-- behind the rows of before stand windows of a document, each with so many beliefs
pub record AddsRows (d : Document) (leaves : ℕ) (before now : List Row) : Type 0 where
  pub more : List Row
  pub behind : now ≡ before ++ more
  pub each : All (λ row. IsWindowOf d leaves (row_candidate row)) more
