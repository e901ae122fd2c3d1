-- Why a hit has its score: what is told of each leaf of the query in the hit's window. Which extents count is the project's
-- own.
use Rattle.std.specs.Prelude.{◌≡◌, ℕ, List, [], ◌∷◌, codes, filter, map, slice_get, unwrap_or, Option}
use Rattle.ri_base.specs.Documents.{Document}
use Rattle.ri_base.specs.Expression.{ExprTree, expr_tree}
use Rattle.ri_base.specs.Pair.{Pair}
use Rattle.ri_base.specs.declared.fraction.Fraction.{Fraction}
use Rattle.ri_base.specs.declared.hit.Hit.{Hit}
use Rattle.ri_base.specs.declared.hit.LeafStats.{LeafStats}
use Rattle.field_extents.specs.Extents.{is_inside}
use Rattle.extent_lists.specs.Pairs.{pair}
use Rattle.query_check.specs.Check.{CheckedTree}
use Rattle.query_check.specs.Leaves.{LeafTree, extents, prior}
use Rattle.belief_nodes.specs.declared.leaf_count.LeafCount.{LeafCount}
use Rattle.document_scoring.specs.Counts.{count_in, counted}
use Rattle.ranked_output.specs.declared.explained.Explained.{Explained}
use Rattle.ranked_output.specs.declared.explained.LeafShown.{LeafShown}
use Rattle.ranked_output.specs.declared.explained.LeafShown.TheVariants.{Extents, Prior}

-- what is told of a leaf: of an expression its context, its counts in the window and in the collection, its extents in the
-- window and its belief; of a prior its name and its belief
pub data LeafTold : Type 0 where
  expression : ExprTree → Option (List ℕ) → LeafCount → LeafStats → List Pair → Fraction → LeafTold
  named : List ℕ → Fraction → LeafTold

abbrev pub told_leaf : LeafShown → LeafTold
told_leaf (Extents expr context count stats found belief) = expression (expr_tree expr) context count stats found belief
told_leaf (Prior name belief) = named name belief

-- the name of a prior by its number: its place among the names, and behind them that of `length`
abbrev pub prior_name : List (List ℕ) → ℕ → List ℕ
prior_name names number = unwrap_or (slice_get names number) (codes "length")

-- the extents of an expression that count in a window, by begin and then end: those inside the window and, with a context,
-- in some field of that name
abbrev pub shown_extents : ExprTree → Document → Pair → Option (List ℕ) → List Pair
shown_extents x d w context = filter (is_inside w) (counted x d context)

-- a leaf in a window of a document, with what the collection has of it and its belief
abbrev pub leaf_told : List (List ℕ) → Document → Pair → LeafTree → LeafStats → Fraction → LeafTold
leaf_told names d w (extents x context) stats belief =
    expression x context (count_in d w (extents x context)) stats (shown_extents x d w context) belief
leaf_told names d w (prior number) stats belief = named (prior_name names number) belief

-- all leaves, in order of their numbers
unfoldable pub leaves_told : List (List ℕ) → Document → Pair → List LeafTree → List LeafStats → List Fraction → List LeafTold
leaves_told names d w [] stats beliefs = []
leaves_told names d w (l ∷ ls) [] beliefs = []
leaves_told names d w (l ∷ ls) (s ∷ ss) [] = []
leaves_told names d w (l ∷ ls) (s ∷ ss) (b ∷ bs) = leaf_told names d w l s b ∷ leaves_told names d w ls ss bs

-- the window of a hit
abbrev pub hit_window : Hit → Pair
hit_window hit = pair hit.begin hit.end

-- This explains a hit of that rank, in this document, by the leaves of the query and what the collection has of them.
pub record IsExplanation (names : List (List ℕ)) (q : CheckedTree) (stats : List LeafStats) (d : Document) (rank : ℕ) (hit : Hit) (e : Explained) : Type 0 where
  pub rank_is : e.rank ≡ rank
  pub hit_is : e.hit ≡ hit
  pub scale_is : e.scale ≡ q.scale
  pub leaves_are : map told_leaf e.leaves ≡ leaves_told names d (hit_window hit) q.leaves stats hit.fractions
