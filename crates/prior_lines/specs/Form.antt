-- The form of a row, as it is written.
use Rattle.std.specs.Prelude.{ℕ, ◌≡◌, ◌<◌, ◌≤◌, ◌++◌, List, ◌∷◌, Some}
use Rattle.ri_base.specs.Ratio.{Ratio}
use Rattle.prior_lines.specs.Numbers.{number}
use Rattle.prior_lines.specs.Row.{row_key}
use Rattle.prior_lines.specs.declared.row.RowKey.{RowKey}

-- a docno or `*`, one space, p, `/`, q, where p / q is above 0 and at most 1
pub record IsRow (text : List ℕ) (key : RowKey) (f : Ratio) : Type 0 where
  pub name : List ℕ
  pub above : List ℕ
  pub below : List ℕ
  pub whole : text ≡ name ++ 32 ∷ (above ++ 47 ∷ below)
  pub named : row_key name ≡ Some key
  pub numerator : number above ≡ Some f.p
  pub denominator : number below ≡ Some f.q
  pub positive : 0 < f.p
  pub at_most_one : f.p ≤ f.q
