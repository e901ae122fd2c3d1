-- Whether an expression may have an extent where only some terms stand.
use Rattle.std.specs.Prelude.{Bool, true, false, ◌&&◌, ◌||◌, ℕ, List}
use Rattle.ri_base.specs.Expression.{ExprTree, ExprTrees, word, ordered, unordered, syn, any, band, in_field, none, more}

unfoldable mutual
  -- by a test of terms: a term that passes it, a window or a whole document of which each argument may, a union of which some
  -- argument may; of fields nothing is asked
  pub may_with : (List ℕ → Bool) → ExprTree → Bool
  may_with has (word t) = has t
  may_with has (ordered n xs) = may_each_with has xs
  may_with has (unordered n xs) = may_each_with has xs
  may_with has (syn xs) = may_some_with has xs
  may_with has (any f) = true
  may_with has (band xs) = may_each_with has xs
  may_with has (in_field x f) = may_with has x

  pub may_each_with : (List ℕ → Bool) → ExprTrees → Bool
  may_each_with has none = true
  may_each_with has (more x xs) = may_with has x && may_each_with has xs

  pub may_some_with : (List ℕ → Bool) → ExprTrees → Bool
  may_some_with has none = false
  may_some_with has (more x xs) = may_with has x || may_some_with has xs
