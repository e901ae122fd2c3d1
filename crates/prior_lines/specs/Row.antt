-- The grammar of a row.
use Rattle.std.specs.Prelude.{ℕ, ◌≡◌, true, ◌&&◌, nat_le, nat_lt, codes, List, Option, Some, None, if◌then◌else◌}
use Rattle.std.specs.Option.{option_and_then, option_map}
use Rattle.std.specs.Str.{bytes_eq}
use Rattle.ri_base.specs.Ratio.{Ratio, ratio_of}
use Rattle.ri_base.specs.Text.{is_docno}
use Rattle.line_parts.specs.Parts.{split}
use Rattle.prior_lines.specs.Numbers.{number}
use Rattle.prior_lines.specs.declared.row.Row.{Row}
use Rattle.prior_lines.specs.declared.row.RowKey.{RowKey}
use Rattle.prior_lines.specs.declared.row.RowKey.TheVariants.{Docno, Rest}

-- the documents that a row speaks of: the one with this docno, or `*`
abbrev pub row_key : List ℕ → Option RowKey
row_key text = if bytes_eq text (codes "*") then Some Rest else if is_docno text then Some (Docno text) else None

-- the fraction p / q, where it is above 0 and at most 1
abbrev pub ratio : ℕ → ℕ → Option Ratio
ratio p q = if nat_lt 0 p && nat_le p q then Some (record { p = p; q = q }) else None

-- p, `/`, q
unfoldable pub fraction : List ℕ → Option Ratio
fraction text = option_and_then (λ x. option_and_then (λ p. option_and_then (λ q. ratio p q) (number x.1)) (number x.0)) (split 47 text)

-- a docno or `*`, one space, and a fraction
unfoldable pub row : List ℕ → Option (RowKey × Ratio)
row text = option_and_then (λ x. option_and_then (λ f. option_map (λ k. (k, f)) (row_key x.0)) (fraction x.1)) (split 32 text)

-- a row that was read
abbrev pub row_seen : Row → RowKey × Ratio
row_seen r = (r.key, ratio_of r.fraction)

-- the docno of a row has the form of one
abbrev pub IsNamed : RowKey → Type 0
IsNamed Rest = Unit {0}
IsNamed (Docno docno) = is_docno docno ≡ true
