-- The grammar of queries, as which texts a query has:
--     query  = filter | window | belief+
--     filter = ("#filreq(" | "#filrej(") expr (filter | window | belief) ")"
--     window = "#combine[" range "](" belief+ ")"
--     range  = field | "passage" number ":" number
use Rattle.std.specs.Prelude.{ℕ, Bool, List, [], ◌∷◌, ◌++◌, codes, if◌then◌else◌, IsFalse}
use Rattle.ri_base.specs.Expression.{ExprTree}
use Rattle.ri_base.specs.Query.{BeliefTree, QueryTree, belief_trees}
use Rattle.ri_base.specs.declared.query.Range.{Range}
use Rattle.ri_base.specs.declared.query.Range.TheVariants.{Whole, Field, Passages}
use Rattle.query_printer.specs.Printed.{begins_passages}
use Rattle.query_language.specs.Grammar.{AreSpaces, IsExpr, IsField, IsNumber}
use Rattle.query_language.specs.BeliefGrammar.{AreBeliefs, IsBelief}
use Rattle.query_reader.specs.QueryText.{filtered, windowed}

pub data IsRange : Range → List ℕ → List ℕ → Type 0 where
  -- `passage` and a digit begin no field
  of_field : (f name behind : List ℕ) → IsField f name behind → IsFalse (begins_passages (name ++ behind)) → IsRange (Field f) name behind
  of_passages : (width every : ℕ) (a b behind : List ℕ) → IsNumber width a → IsNumber every b → IsRange (Passages width every) (codes "passage" ++ (a ++ 58 ∷ b)) behind

abbrev pub filter_sign : Bool → List ℕ
filter_sign keep = if keep then codes "#filreq(" else codes "#filrej("

-- filter | window | belief
pub data IsBody : QueryTree → List ℕ → List ℕ → Type 0 where
  of_belief : (x : BeliefTree) (text behind : List ℕ) → IsBelief x text behind → IsBody (windowed Whole (x ∷ [])) text behind
  of_window : (r : Range) (xs : List BeliefTree) (range inside behind : List ℕ) → IsRange r range (93 ∷ 40 ∷ (inside ++ behind)) → AreBeliefs (belief_trees xs) inside behind → IsBody (windowed r xs) (codes "#combine[" ++ (range ++ 93 ∷ 40 ∷ inside)) behind
  of_filter : (keep : Bool) (x : ExprTree) (q : QueryTree) (space text between inside space_behind behind : List ℕ) → AreSpaces space → IsExpr x text (between ++ (inside ++ (space_behind ++ 41 ∷ behind))) → AreSpaces between
      → IsBody q inside (space_behind ++ 41 ∷ behind) → AreSpaces space_behind
      → IsBody (filtered (record { keep = keep; expr = x }) q) (filter_sign keep ++ (space ++ (text ++ (between ++ (inside ++ (space_behind ++ 41 ∷ [])))))) behind

-- one belief or more up to the end of the text
pub data AreTop : List BeliefTree → List ℕ → Type 0 where
  last : (x : BeliefTree) (space text space_behind : List ℕ) → AreSpaces space → IsBelief x text space_behind → AreSpaces space_behind → AreTop (x ∷ []) (space ++ (text ++ space_behind))
  further : (x y : BeliefTree) (xs : List BeliefTree) (space text others : List ℕ) → AreSpaces space → IsBelief x text others → AreTop (y ∷ xs) others → AreTop (x ∷ y ∷ xs) (space ++ (text ++ others))

-- a query
pub data IsQueryText : QueryTree → List ℕ → Type 0 where
  of_body : (q : QueryTree) (space text space_behind : List ℕ) → AreSpaces space → IsBody q text space_behind → AreSpaces space_behind → IsQueryText q (space ++ (text ++ space_behind))
  of_beliefs : (xs : List BeliefTree) (text : List ℕ) → AreTop xs text → IsQueryText (windowed Whole xs) text
