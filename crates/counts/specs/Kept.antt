-- Sums that are kept, each for a generation: a number that a caller changes when the documents change.
use Rattle.std.specs.Prelude.{◌≡◌, ◌<◌, ◌≤◌, ◌-◌, ◌^◌, ℕ, List, Option, Contains, map}
use Rattle.ri_base.specs.Documents.{Document}
use Rattle.ri_base.specs.Expression.{ExprTree, expr_tree}
use Rattle.ri_base.specs.declared.expression.ExtentExpr.{ExtentExpr}
use Rattle.ri_base.specs.declared.hit.LeafStats.{LeafStats}
use Rattle.counts.specs.Sums.{sums}
use Rattle.counts.specs.declared.kept_sum.KeptSum.{KeptSum}
use Rattle.counts.specs.declared.kept_sum.SumKey.{SumKey}

-- the sums of an expression with its context over the documents of a generation
pub record Kept : Type 0 where
  pub generation : ℕ
  pub expr : ExtentExpr
  pub context : Option (List ℕ)
  pub stats : LeafStats

-- what an entry of the cache says
abbrev pub kept_of : SumKey × KeptSum → Kept
kept_of e = record { generation = e.0.generation; expr = e.1.expr; context = e.1.context; stats = e.1.stats }

abbrev pub all_kept : List (SumKey × KeptSum) → List Kept
all_kept es = map kept_of es

-- these are the sums of this expression with this context, for this generation
pub record IsSumOf (generation : ℕ) (x : ExprTree) (context : Option (List ℕ)) (stats : LeafStats) (e : Kept) : Type 0 where
  pub generation_is : e.generation ≡ generation
  pub expr_is : expr_tree e.expr ≡ x
  pub context_is : e.context ≡ context
  pub stats_are : e.stats ≡ stats

-- they are among what is kept
abbrev pub IsKept : List Kept → ℕ → ExprTree → Option (List ℕ) → LeafStats → Type 0
IsKept all generation x context stats = (e : Kept) × Contains all e × IsSumOf generation x context stats e

-- What may be kept anew: these sums, for a generation that isn't the greatest number. That one may stand for several.
pub record IsNew (generation : ℕ) (x : ExprTree) (context : Option (List ℕ)) (e : Kept) (stats : LeafStats) : Type 0 where
  pub sums : IsSumOf generation x context stats e
  pub not_last : generation < 2 ^ 64 - 1

-- each sum that is kept for this generation is that over these documents, and none is kept for a later one
pub record AreSums (docs : List Document) (generation : ℕ) (all : List Kept) : Type 0 where
  pub right : (e : Kept) → Contains all e → e.generation ≡ generation → e.stats ≡ sums docs (expr_tree e.expr) e.context
  pub none_later : (e : Kept) → Contains all e → e.generation ≤ generation
