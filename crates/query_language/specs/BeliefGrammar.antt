-- The grammar of beliefs, as which texts a belief has:
--     belief = "#combine(" belief+ ")" | "#max(" belief+ ")" | "#weight(" (weight belief)+ ")" | "#prior(" field ")" | leaf
--     leaf   = expr [ ".(" field ")" ]
-- `IsBelief x text behind` says that text is a text of x where `behind` stands behind it.
use Rattle.std.specs.Prelude.{ℕ, ◌≡◌, ◌≤◌, ◌<◌, ◌+◌, ◌-◌, ◌*◌, ◌^◌, ◌⊎◌, ◌&&◌, List, [], ◌∷◌, ◌++◌, length, drop, codes, IsTrue, IsFalse, Some, None}
use Rattle.std.specs.List.{list_all}
use Rattle.ri_base.specs.Ascii.{is_space, is_digit}
use Rattle.ri_base.specs.Expression.{ExprTree}
use Rattle.ri_base.specs.Query as tree
use Rattle.ri_base.specs.Query.{BeliefTree, BeliefTrees, WeightedTrees}
use Rattle.query_reader.specs.Bytes.{begins, begins_in, skip}
use Rattle.query_reader.specs.Parts.{value_from}
use Rattle.query_language.specs.Grammar.{AreSpaces, IsExpr, IsField}

-- A weight in billionths: digits, or digits `.` digits, or digits `.`, or `.` digits; at most 6 before the point and 9
-- behind it.
pub record IsWeight (w : ℕ) (text behind : List ℕ) : Type 0 where
  pub whole : List ℕ
  pub part : List ℕ
  pub form : ((text ≡ whole) × (part ≡ []) × IsFalse (begins 46 behind)) ⊎ (text ≡ whole ++ 46 ∷ part)
  pub digits : IsTrue (list_all is_digit whole)
  pub part_digits : IsTrue (list_all is_digit part)
  pub some : 0 < length whole + length part
  pub short : length whole ≤ 6
  pub part_short : length part ≤ 9
  pub longest : IsFalse (begins_in is_digit behind)
  pub value : value_from 0 (whole ++ part) * 10 ^ (9 - length part) ≡ w

-- no `.(` stands here, nor behind white space
abbrev pub BeginsNoContext : List ℕ → Type 0
BeginsNoContext behind = IsFalse (begins 46 (skip is_space behind) && begins 40 (drop 1 (skip is_space behind)))

mutual
  pub data IsBelief : BeliefTree → List ℕ → List ℕ → Type 0 where
    of_combine : (xs : BeliefTrees) (inside behind : List ℕ) → AreBeliefs xs inside behind → IsBelief (tree.combine xs) (codes "#combine(" ++ inside) behind
    of_max : (xs : BeliefTrees) (inside behind : List ℕ) → AreBeliefs xs inside behind → IsBelief (tree.greatest xs) (codes "#max(" ++ inside) behind
    of_weight : (xs : WeightedTrees) (inside behind : List ℕ) → AreWeighted xs inside behind → IsBelief (tree.weight xs) (codes "#weight(" ++ inside) behind
    of_prior : (f name space behind : List ℕ) → IsField f name (space ++ 41 ∷ behind) → AreSpaces space → IsBelief (tree.prior f) (codes "#prior(" ++ (name ++ (space ++ 41 ∷ []))) behind
    of_leaf : (x : ExprTree) (text behind : List ℕ) → IsExpr x text behind → BeginsNoContext behind → IsBelief (tree.leaf x None) text behind
    of_context : (x : ExprTree) (f text space name space_behind behind : List ℕ) → IsExpr x text (space ++ 46 ∷ 40 ∷ (name ++ (space_behind ++ 41 ∷ behind))) → AreSpaces space → IsField f name (space_behind ++ 41 ∷ behind) → AreSpaces space_behind
        → IsBelief (tree.leaf x (Some f)) (text ++ (space ++ 46 ∷ 40 ∷ (name ++ (space_behind ++ 41 ∷ [])))) behind

  -- one belief or more, each with white space round it, and `)`
  pub data AreBeliefs : BeliefTrees → List ℕ → List ℕ → Type 0 where
    last : (x : BeliefTree) (space text space_behind behind : List ℕ) → AreSpaces space → IsBelief x text (space_behind ++ 41 ∷ behind) → AreSpaces space_behind → AreBeliefs (tree.more x tree.none) (space ++ (text ++ (space_behind ++ 41 ∷ []))) behind
    further : (x : BeliefTree) (xs : BeliefTrees) (space text others behind : List ℕ) → AreSpaces space → IsBelief x text (others ++ behind) → AreBeliefs xs others behind → AreBeliefs (tree.more x xs) (space ++ (text ++ others)) behind

  -- the same with a weight before each
  pub data AreWeighted : WeightedTrees → List ℕ → List ℕ → Type 0 where
    last_weighted : (w : ℕ) (x : BeliefTree) (space text space_behind behind : List ℕ) → AreSpaces space → IsWeighted w x text (space_behind ++ 41 ∷ behind) → AreSpaces space_behind → AreWeighted (tree.more_weighted w x tree.none_weighted) (space ++ (text ++ (space_behind ++ 41 ∷ []))) behind
    further_weighted : (w : ℕ) (x : BeliefTree) (xs : WeightedTrees) (space text others behind : List ℕ) → AreSpaces space → IsWeighted w x text (others ++ behind) → AreWeighted xs others behind → AreWeighted (tree.more_weighted w x xs) (space ++ (text ++ others)) behind

  pub data IsWeighted : ℕ → BeliefTree → List ℕ → List ℕ → Type 0 where
    of_weighted : (w : ℕ) (x : BeliefTree) (weight space text behind : List ℕ) → IsWeight w weight (space ++ (text ++ behind)) → AreSpaces space → IsBelief x text behind → IsWeighted w x (weight ++ (space ++ text)) behind
