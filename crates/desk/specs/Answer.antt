-- The results of a query over the documents of a list, the lines that show them, and what explains one of them.
use Rattle.std.specs.Prelude.{◌≡◌, ℕ, ◌-◌, List, map, take, drop, find, slice_get, Option, None, Some}
use Rattle.std.specs.Str.{bytes_eq}
use Rattle.ri_base.specs.Documents.{Document}
use Rattle.ri_base.specs.declared.hit.Hit.{Hit}
use Rattle.smoothing.specs.Fractions.{IsMu}
use Rattle.smoothing.specs.declared.rule.RuleKind.{RuleKind}
use Rattle.smoothing.specs.declared.rule.RuleKind.TheVariants.{Dirichlet}
use Rattle.query_check.specs.Check.{CheckedTree}
use Rattle.belief_nodes.specs.Priors.{Prior}
use Rattle.document_scoring.specs.Counts.{stats_of}
use Rattle.ranked_output.specs.Explained.{explained_text}
use Rattle.ranked_output.specs.Texts.{Line, lines_of}
use Rattle.ranked_output.specs.declared.explained.Explained.{Explained}
use Rattle.true_order.specs.Ranked.{hit_beliefs}
use Rattle.true_order.specs.TrueOrder.{IsTrueOrder}
use Rattle.result_explanation.specs.Explanation.{IsExplanation}
use Rattle.desk.specs.Ranking.{IsRanking}
use Rattle.desk.specs.Shown.{Shown, explanation, results, shown_text}

-- the numbers of the rule are in their ranges
abbrev pub IsRule : RuleKind → Type 0
IsRule (Dirichlet mu) = IsMu mu

-- ---- the first results

-- the lines of the first k results of a ranking
abbrev pub first_lines : ℕ → CheckedTree → List Hit → List Line
first_lines k q ranking = lines_of q.scale (take k ranking)

-- a ranking of these documents, and the order of its first k lines is true of the beliefs behind it
pub record IsResult (rule : RuleKind) (priors : List Prior) (k : ℕ) (q : CheckedTree) (docs : List Document) (ranking : List Hit) : Type 0 where
  pub ranked : IsRanking rule priors q docs ranking
  pub order : IsTrueOrder q.tree (first_lines k q ranking) (map hit_beliefs (drop k ranking))

-- ---- what explains a result

-- the document with this docno
abbrev pub document_with : List ℕ → List Document → Option Document
document_with docno docs = find (λ d. bytes_eq docno d.docno) docs

-- the result of a rank, counted from 1
abbrev pub hit_of_rank : ℕ → List Hit → Option Hit
hit_of_rank rank ranking = slice_get ranking (rank - 1)

-- the lines of what explains a hit of that rank in the document with its docno, by what these documents have of the leaves;
-- the priors of the query have these names, and `length`
pub record Explains (names : List (List ℕ)) (q : CheckedTree) (docs : List Document) (rank : ℕ) (hit : Hit) (answer : Option (List ℕ)) : Type 0 where
  pub document : Document
  pub there : document_with hit.docno docs ≡ Some document
  pub explained : Explained
  pub is : IsExplanation names q (map (stats_of docs) q.leaves) document rank hit explained
  pub text : answer ≡ Some (explained_text explained)

-- what explains the result of that rank, or nothing where there are fewer results
abbrev pub ExplainsRank : List (List ℕ) → CheckedTree → List Document → ℕ → Option Hit → Option (List ℕ) → Type 0
ExplainsRank names q docs rank None answer = answer ≡ None
ExplainsRank names q docs rank (Some hit) answer = Explains names q docs rank hit answer

-- ---- the answer

-- The text that answers a query over these documents, by a ranking of them; none where a rank is above the number of results.
abbrev pub IsAnswerText : RuleKind → List Prior → List (List ℕ) → Shown → CheckedTree → List Document → Option (List ℕ) → Type 0
IsAnswerText rule priors names (results k labels) q docs answer =
    (ranking : List Hit) × IsResult rule priors k q docs ranking × (answer ≡ Some (shown_text labels (first_lines k q ranking)))
IsAnswerText rule priors names (explanation rank) q docs answer =
    (ranking : List Hit) × IsRanking rule priors q docs ranking × ExplainsRank names q docs rank (hit_of_rank rank ranking) answer
