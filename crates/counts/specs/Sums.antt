-- What is counted of an expression in the documents of a list. These are the numbers of a leaf's belief that a whole collection
-- gives.
use Rattle.std.specs.Prelude.{◌≤◌, ℕ, List, Option, sum_by}
use Rattle.ri_base.specs.Documents.{Document}
use Rattle.ri_base.specs.Expression.{ExprTree}
use Rattle.ri_base.specs.declared.hit.LeafStats.{LeafStats}
use Rattle.ri_base.specs.declared.limits.TheConstants.{MAX_HELD_TOKENS}
use Rattle.extent_evaluation.specs.Counts.{len, tf, whole}

-- at how many tokens of a document extents begin that count
abbrev pub occurrences : ExprTree → Option (List ℕ) → Document → ℕ
occurrences x context d = tf x d (whole d) context

-- how many tokens of a document count
abbrev pub counted_tokens : Option (List ℕ) → Document → ℕ
counted_tokens context d = len d (whole d) context

-- the sums of both over documents
abbrev pub sums : List Document → ExprTree → Option (List ℕ) → LeafStats
sums docs x context = record { cf = sum_by (occurrences x context) docs; total = sum_by (counted_tokens context) docs }

-- an expression occurs no more often than there are tokens that count, and no more tokens are held than may be
pub record AreBounded (stats : LeafStats) : Type 0 where
  pub part : stats.cf ≤ stats.total
  pub few : stats.total ≤ MAX_HELD_TOKENS
