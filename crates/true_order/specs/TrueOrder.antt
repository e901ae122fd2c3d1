-- What a printed ranking claims of the beliefs behind it, in powers of whole numbers and without keys. Each line, and each
-- window that isn't shown, is told by the beliefs of the query's leaves; a window is a document or a part of one. The
-- statement is this project's own.
use Rattle.std.specs.Prelude.{◌≡◌, ◌<◌, ◌≤◌, ℕ, zero, suc, ◌+◌, ◌*◌, ◌^◌, List, map, Option, None, Some, Contains, IsSomeAnd, slice_get}
use Rattle.ri_base.specs.Ratio.{Ratio, ratio_of}
use Rattle.query_check.specs.Scale.{scale}
use Rattle.query_check.specs.Trees.{ScaledTree}
use Rattle.belief_nodes.specs.Order.{IsGreater, IsNear, IsSame}
use Rattle.belief_nodes.specs.Products.{product}
use Rattle.ranked_output.specs.declared.marks.Mark.TheVariants.{Below, Same, Near}
use Rattle.ranked_output.specs.Texts.{Line}

-- the beliefs of the leaves in what a line shows
abbrev pub beliefs : Line → List Ratio
beliefs l = map ratio_of l.fractions

-- the line at place i, from 0 on
abbrev pub IsLine : List Line → ℕ → Line → Type 0
IsLine lines i l = slice_get lines i ≡ Some l

-- the line above place i
abbrev pub above : List Line → ℕ → Option Line
above lines zero = None
above lines (suc i) = slice_get lines i

-- With P / Q the product of a tree of scale e, so that its belief is the e-th root of P / Q: s millionths are at most the
-- logarithm of 1 / belief to base 2, and s + 2 millionths are more.
pub record IsScore (s e : ℕ) (r : Ratio) : Type 0 where
  pub lower : 2 ^ (s * e) * r.p ^ 1000000 ≤ r.q ^ 1000000
  pub upper : r.q ^ 1000000 < 2 ^ ((s + 2) * e) * r.p ^ 1000000

-- The order of these lines is true of the beliefs of this query's tree. `others` are the windows that might have been
-- shown and aren't.
pub record IsTrueOrder (tree : ScaledTree) (lines : List Line) (others : List (List Ratio)) : Type 0 where
  -- a line has a smaller belief than each line above it, where `>` stands on it or on a line between them
  pub below : (i j k : ℕ) (a b c : Line) → IsLine lines i a → IsLine lines j b → IsLine lines k c → i < j → j ≤ k
      → b.mark ≡ Below → IsGreater tree (beliefs a) (beliefs c)
  -- `=` stands only where each leaf has the same belief as in the line above
  pub same : (i : ℕ) (b : Line) → IsLine lines i b → b.mark ≡ Same
      → IsSomeAnd (above lines i) (λ a. IsSame (beliefs a) (beliefs b))
  -- `~` stands only where the line above is near, and some leaf has another belief there
  pub near : (i : ℕ) (b : Line) → IsLine lines i b → b.mark ≡ Near
      → IsSomeAnd (above lines i) (λ a. IsNear tree (beliefs a) (beliefs b) × ¬ IsSame (beliefs a) (beliefs b))
  -- what isn't shown and has a greater belief than a line is near to that line
  pub left_out : (i : ℕ) (a : Line) (c : List Ratio) → IsLine lines i a → Contains others c
      → IsGreater tree c (beliefs a) → IsNear tree c (beliefs a)
  -- where `>` stands on a line, each line above it has a greater belief than all that isn't shown
  pub certain : (i j : ℕ) (a b : Line) (c : List Ratio) → IsLine lines i a → IsLine lines j b → i < j
      → b.mark ≡ Below → Contains others c → IsGreater tree (beliefs a) c
  pub scores : (i : ℕ) (a : Line) → IsLine lines i a → IsScore a.score (scale tree) (product (beliefs a) tree)
