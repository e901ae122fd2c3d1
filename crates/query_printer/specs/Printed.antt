-- The text that a query is printed as, and that of an expression.
use Rattle.std.specs.Prelude.{ℕ, suc, zero, Bool, List, [], ◌∷◌, ◌++◌, ◌==◌, ◌+◌, ◌^◌, ◌/◌, ◌%◌, if◌then◌else◌, Option, None, Some, codes, false, drop, ◌&&◌}
use Rattle.std.specs.List.{take_while, prefix_len}
use Rattle.std.specs.Str.{bytes_eq}
use Rattle.ri_base.specs.Ascii.{is_letter, is_digit}
use Rattle.std.specs.Fmt.{decimal}
use Rattle.ri_base.specs.Expression as expr
use Rattle.ri_base.specs.Expression.{ExprTree, ExprTrees}
use Rattle.ri_base.specs.Query as tree
use Rattle.ri_base.specs.Query.{BeliefTree, BeliefTrees, WeightedTrees, FilterTree, QueryTree}
use Rattle.ri_base.specs.declared.query.Range.{Range}
use Rattle.ri_base.specs.declared.query.Range.TheVariants.{Whole, Field, Passages}

-- each `"` twice
abbrev pub doubled : List ℕ → List ℕ
doubled [] = []
doubled (b ∷ bytes) = if b == 34 then 34 ∷ 34 ∷ doubled bytes else b ∷ doubled bytes

-- a term is printed as a quoted, and each operator with one space between its arguments
unfoldable mutual
  pub printed : ExprTree → List ℕ
  printed (expr.word t) = 34 ∷ (doubled t ++ 34 ∷ [])
  printed (expr.ordered n xs) = 35 ∷ (decimal n ++ 40 ∷ printed_all xs)
  printed (expr.unordered n xs) = 35 ∷ 117 ∷ 119 ∷ (decimal n ++ 40 ∷ printed_all xs)
  printed (expr.syn xs) = codes "#syn(" ++ printed_all xs
  printed (expr.any f) = codes "#any:" ++ f
  printed (expr.band xs) = codes "#band(" ++ printed_all xs
  printed (expr.in_field x f) = printed x ++ 46 ∷ f

  -- arguments and `)`
  pub printed_all : ExprTrees → List ℕ
  printed_all expr.none = 41 ∷ []
  printed_all (expr.more x xs) = printed x ++ printed_more xs

  -- those behind the first
  pub printed_more : ExprTrees → List ℕ
  printed_more expr.none = 41 ∷ []
  printed_more (expr.more x xs) = 32 ∷ (printed x ++ printed_more xs)

-- the decimals of a part of 10 ^ k, first digit by digit, as long as something is left
unfoldable pub decimals_of : ℕ → ℕ → List ℕ
decimals_of zero rest = []
decimals_of (suc k) rest = if rest == 0 then [] else (48 + rest / 10 ^ k) ∷ decimals_of k (rest % 10 ^ k)

-- a weight of so many billionths: its whole part, and a point and its decimals where there are any
abbrev pub fraction_text : ℕ → List ℕ
fraction_text part = if part == 0 then [] else 46 ∷ decimals_of 9 part

abbrev pub weight_text : ℕ → List ℕ
weight_text w = decimal (w / 1000000000) ++ fraction_text (w % 1000000000)

abbrev pub context_text : Option (List ℕ) → List ℕ
context_text None = []
context_text (Some f) = 46 ∷ 40 ∷ (f ++ 41 ∷ [])

unfoldable mutual
  pub belief_text : BeliefTree → List ℕ
  belief_text (tree.combine xs) = codes "#combine(" ++ beliefs_text xs
  belief_text (tree.weight xs) = codes "#weight(" ++ weighted_text xs
  belief_text (tree.greatest xs) = codes "#max(" ++ beliefs_text xs
  belief_text (tree.prior f) = codes "#prior(" ++ (f ++ 41 ∷ [])
  belief_text (tree.leaf x context) = printed x ++ context_text context

  pub beliefs_text : BeliefTrees → List ℕ
  beliefs_text tree.none = 41 ∷ []
  beliefs_text (tree.more x xs) = belief_text x ++ more_beliefs_text xs

  pub more_beliefs_text : BeliefTrees → List ℕ
  more_beliefs_text tree.none = 41 ∷ []
  more_beliefs_text (tree.more x xs) = 32 ∷ (belief_text x ++ more_beliefs_text xs)

  pub weighted_text : WeightedTrees → List ℕ
  weighted_text tree.none_weighted = 41 ∷ []
  weighted_text (tree.more_weighted w x xs) = weight_text w ++ 32 ∷ (belief_text x ++ more_weighted_text xs)

  pub more_weighted_text : WeightedTrees → List ℕ
  more_weighted_text tree.none_weighted = 41 ∷ []
  more_weighted_text (tree.more_weighted w x xs) = 32 ∷ (weight_text w ++ 32 ∷ (belief_text x ++ more_weighted_text xs))

-- beliefs as they stand at the top, with one space between
abbrev pub more_top_text : List BeliefTree → List ℕ
more_top_text [] = []
more_top_text (x ∷ xs) = 32 ∷ (belief_text x ++ more_top_text xs)

abbrev pub top_text : List BeliefTree → List ℕ
top_text [] = []
top_text (x ∷ xs) = belief_text x ++ more_top_text xs

-- `passage` and a digit, which begin a passage range; read with case
abbrev pub begins_in_digit : List ℕ → Bool
begins_in_digit [] = false
begins_in_digit (b ∷ bytes) = is_digit b

abbrev pub begins_passages : List ℕ → Bool
begins_passages bytes = bytes_eq (take_while is_letter bytes) (codes "passage") && begins_in_digit (drop (prefix_len is_letter bytes) bytes)

-- a window's field. A field's name is read without case and a passage range with case, so that a capital tells the two.
abbrev pub window_field : List ℕ → List ℕ
window_field f = if begins_passages f then 80 ∷ drop 1 f else f

abbrev pub range_text : Range → List ℕ
range_text Whole = []
range_text (Field f) = window_field f
range_text (Passages width every) = codes "passage" ++ (decimal width ++ 58 ∷ decimal every)

abbrev pub window_text : Range → List BeliefTree → List ℕ
window_text r xs = codes "#combine[" ++ (range_text r ++ (codes "](" ++ beliefs_text (tree.belief_trees xs)))

abbrev pub body_text : Range → List BeliefTree → List ℕ
body_text Whole xs = top_text xs
body_text (Field f) xs = window_text (Field f) xs
body_text (Passages width every) xs = window_text (Passages width every) xs

abbrev pub filter_name : Bool → List ℕ
filter_name keep = if keep then codes "#filreq(" else codes "#filrej("

-- a filter up to what is inside it
abbrev pub filter_start : FilterTree → List ℕ
filter_start f = filter_name f.keep ++ (printed f.expr ++ 32 ∷ [])

-- filters round what stands inside them
abbrev pub filters_text : List FilterTree → List ℕ → List ℕ
filters_text [] inside = inside
filters_text (f ∷ filters) inside = filter_start f ++ (filters_text filters inside ++ 41 ∷ [])

abbrev pub query_printed : QueryTree → List ℕ
query_printed q = filters_text q.filters (body_text q.range q.beliefs)
