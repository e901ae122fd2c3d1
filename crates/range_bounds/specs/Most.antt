-- At how many tokens at most extents of an expression begin in one document of a range, told by counts of the range alone.
-- This is the project's own.
use Rattle.std.specs.Prelude.{ℕ, ◌+◌, Bool, true, ◌&&◌, nat_lt, min, cond, List}
use Rattle.ri_base.specs.Documents.{Document}
use Rattle.ri_base.specs.Expression.{ExprTree, ExprTrees, word, ordered, unordered, syn, any, band, in_field, none, more}
use Rattle.ri_base.specs.declared.limits.TheConstants.{MAX_DOC_TOKENS}
use Rattle.range_bounds.specs.Ranges.{most_begins, most_places}

-- never more than a document has tokens
abbrev pub capped : ℕ → ℕ
capped n = min n MAX_DOC_TOKENS

-- from the most places of each term in one document, and the most tokens at which fields of each name begin: a window begins where
-- its first argument does, or where one of its arguments does, and needs each of them
unfoldable mutual
  pub most_by : (List ℕ → ℕ) → (List ℕ → ℕ) → ExprTree → ℕ
  most_by terms names (word t) = capped (terms t)
  most_by terms names (ordered n xs) = cond (each_occurs terms names xs) (most_of_first terms names xs) 0
  most_by terms names (unordered n xs) = cond (each_occurs terms names xs) (capped (total_most terms names xs)) 0
  most_by terms names (syn xs) = capped (total_most terms names xs)
  most_by terms names (any f) = capped (names f)
  most_by terms names (band xs) = cond (each_occurs terms names xs) 1 0
  most_by terms names (in_field x f) = most_by terms names x

  -- no argument has 0
  pub each_occurs : (List ℕ → ℕ) → (List ℕ → ℕ) → ExprTrees → Bool
  each_occurs terms names none = true
  each_occurs terms names (more x xs) = nat_lt 0 (most_by terms names x) && each_occurs terms names xs

  pub most_of_first : (List ℕ → ℕ) → (List ℕ → ℕ) → ExprTrees → ℕ
  most_of_first terms names none = 0
  most_of_first terms names (more x xs) = most_by terms names x

  pub total_most : (List ℕ → ℕ) → (List ℕ → ℕ) → ExprTrees → ℕ
  total_most terms names none = 0
  total_most terms names (more x xs) = most_by terms names x + total_most terms names xs

-- in one of these documents
abbrev pub most : List Document → ExprTree → ℕ
most docs x = most_by (most_places docs) (most_begins docs) x
