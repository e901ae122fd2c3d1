-- The extents of an expression in a document.
use Rattle.std.specs.Prelude.{◌≡◌, ◌<◌, ℕ, ◌+◌, List, [], ◌∷◌, length, slice_get, Some}
use Rattle.std.specs.List.{Contains}
use Rattle.ri_base.specs.Documents.{Document, Field}
use Rattle.ri_base.specs.Expression.{ExprTree, ExprTrees, word, ordered, unordered, syn, any, band, in_field, none, more}
use Rattle.extent_lists.specs.Operators.{IsInside, IsLeastEnd, IsInSome, HasEach, IsChain, IsWindow}

-- a field of this name goes from b to e
abbrev pub IsField : List Field → List ℕ → ℕ → ℕ → Type 0
IsField fields name b e = Contains fields (record { name = name; begin = b; end = e })

-- the extent from b to e lies inside some field of this name
abbrev pub LiesInField : List Field → List ℕ → ℕ → ℕ → Type 0
LiesInField fields name b e = (from : ℕ) × (to : ℕ) × IsField fields name from to × IsInside b e from to

unfoldable mutual
  -- whether the expression has the extent from b to e in the document; an extent has at least one token
  pub Ext : ExprTree → Document → ℕ → ℕ → Type 0
  Ext (word t) d b e = (slice_get d.tokens b ≡ Some t) × (e ≡ b + 1)
  Ext (ordered n xs) d b e = IsLeastEnd (IsChain n (Exts xs d)) b e
  Ext (unordered n xs) d b e = IsLeastEnd (IsWindow n (Exts xs d)) b e
  Ext (syn xs) d b e = IsInSome (Exts xs d) b e
  Ext (any f) d b e = IsField d.fields f b e
  Ext (band xs) d b e = (b ≡ 0) × (e ≡ length d.tokens) × (b < e) × HasEach (Exts xs d)
  Ext (in_field x f) d b e = Ext x d b e × LiesInField d.fields f b e

  -- the sets of the extents of several expressions
  pub Exts : ExprTrees → Document → List (ℕ → ℕ → Type 0)
  Exts none d = []
  Exts (more x xs) d = Ext x d ∷ Exts xs d
