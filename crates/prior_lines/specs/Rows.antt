-- What the lines of prior rows give: the rows that are kept, and what is said of each line.
use Rattle.std.specs.Prelude.{ℕ, ◌≡◌, ◌<◌, ◌≤◌, nat_le, List, [], ◌∷◌, ◌++◌, filter, map, length, Bool, true, false, Option, Some, None, is_some, All, IfSome, if◌then◌else◌}
use Rattle.std.specs.Map.{lookup}
use Rattle.std.specs.Str.{bytes_eq}
use Rattle.line_reader.specs.Texts.{Placed, texts_at}
use Rattle.ri_base.specs.Ratio.{Ratio, ratio_of}
use Rattle.ri_base.specs.declared.fraction.Fraction.{Fraction}
use Rattle.ri_base.specs.declared.limits.TheConstants.{MAX_PRIOR_ROWS, PRIOR_LIMIT}
use Rattle.ri_base.specs.Text.{is_docno}
use Rattle.manifest.specs.Priors.{Row}
use Rattle.prior_lines.specs.Row.{row}
use Rattle.prior_lines.specs.declared.line.RowLine.{RowLine}
use Rattle.prior_lines.specs.declared.line.RowLine.TheVariants.{Accepted, BadRow, LineTooLong, RepeatedRow, RepeatedRest, TooManyRows}
use Rattle.prior_lines.specs.declared.row.RowKey.{RowKey}
use Rattle.prior_lines.specs.declared.row.RowKey.TheVariants.{Docno, Rest}

-- the accepted rows, in the order of their lines: a finite map by docno, and the fraction of the documents without one
pub record Kept : Type 0 where
  pub rest : Option Ratio
  pub rows : List (List ℕ × Ratio)

-- the rows of the program, as the numbers of their fractions stand
abbrev pub rows_seen : List (List ℕ × Fraction) → List (List ℕ × Ratio)
rows_seen rows = map {B = List ℕ × Ratio} (λ e. (e.0, ratio_of e.1)) rows

abbrev pub none_kept : Kept
none_kept = record { rest = None; rows = [] }

-- the fraction of this docno's row, where it has one
abbrev pub row_of : List ℕ → List (List ℕ × Ratio) → Option Ratio
row_of docno rows = lookup (bytes_eq docno) rows

abbrev pub is_full : List (List ℕ × Ratio) → Bool
is_full rows = nat_le MAX_PRIOR_ROWS (length rows)

-- a line: what is kept then, and what is said of it
abbrev pub Step : Type 0
Step = Kept × RowLine

abbrev pub rest_step : Kept → Ratio → Step
rest_step kept f = if is_some kept.rest then (kept, RepeatedRest) else (record { rest = Some f; rows = kept.rows }, Accepted)

abbrev pub docno_step : Kept → ℕ → List ℕ → Ratio → Step
docno_step kept place docno f =
    if is_some (row_of docno kept.rows) then (kept, RepeatedRow docno) else
    if is_full kept.rows then (kept, TooManyRows place) else
    (record { rest = kept.rest; rows = kept.rows ++ (docno, f) ∷ [] }, Accepted)

abbrev pub row_step : Kept → ℕ → Option (RowKey × Ratio) → Step
row_step kept place None = (kept, BadRow place)
row_step kept place (Some (Rest, f)) = rest_step kept f
row_step kept place (Some (Docno docno, f)) = docno_step kept place docno f

abbrev pub line_step : Kept → Placed → Step
line_step kept (place, None) = (kept, LineTooLong place)
line_step kept (place, Some text) = row_step kept place (row text)

-- all lines: what is kept at the end, and what is said of each line in turn
abbrev pub Outcome : Type 0
Outcome = Kept × List RowLine

abbrev pub with_line : RowLine → Outcome → Outcome
with_line said behind = (behind.0, said ∷ behind.1)

unfoldable pub outcome : Kept → List Placed → Outcome
outcome kept [] = (kept, [])
outcome kept (text ∷ texts) = with_line (line_step kept text).1 (outcome (line_step kept text).0 texts)

-- from this offset on
abbrev pub outcome_at : Kept → ℕ → List ℕ → Outcome
outcome_at kept offset bytes = outcome kept (texts_at offset bytes)

-- the rows of a whole text
abbrev pub prior_rows : List ℕ → Kept
prior_rows bytes = (outcome_at none_kept 0 bytes).0

abbrev pub is_refusal : RowLine → Bool
is_refusal Accepted = false
is_refusal (BadRow place) = true
is_refusal (LineTooLong place) = true
is_refusal (RepeatedRow docno) = true
is_refusal RepeatedRest = true
is_refusal (TooManyRows place) = true

-- the refusals of a whole text, in the order of their lines
abbrev pub refusals : List ℕ → List RowLine
refusals bytes = filter is_refusal (outcome_at none_kept 0 bytes).1

-- an outcome by its rows and its refusals
abbrev pub refused_of : List RowLine → Outcome → Outcome
refused_of before found = (found.0, before ++ filter is_refusal found.1)

-- what the answer of a reader says, with the lines behind it
abbrev pub row_answer : Option RowLine → Kept → ℕ → List ℕ → Outcome
row_answer None kept at bytes = (kept, [])
row_answer (Some said) kept at bytes = with_line said (outcome_at kept at bytes)

-- a fraction of numbers below the limit of a prior
abbrev pub IsSmall : Ratio → Type 0
IsSmall f = f.q < PRIOR_LIMIT

-- at most so many rows, each of a docno, and numbers below the limit
pub record IsKept (kept : Kept) : Type 0 where
  pub few : length kept.rows ≤ MAX_PRIOR_ROWS
  pub named : All (λ r. is_docno r.0 ≡ true) kept.rows
  pub small : All (λ r. IsSmall r.1) kept.rows
  pub small_rest : IfSome kept.rest IsSmall

-- a row of the file of a prior
abbrev pub prior_row : List ℕ × Ratio → Row
prior_row r = record { docno = r.0; belief = r.1 }
