-- What the rows of a prior keep.
use Rattle.std.specs.Prelude.{◌≡◌, ◌<◌, ℕ, ◌^◌, true, List, [], length, Option, None, Some, nat_le, ◌&&◌}
use Rattle.ri_base.specs.Ratio.{Ratio}
use Rattle.ri_base.specs.Text.{is_docno}
use Rattle.ri_base.specs.declared.limits.TheConstants.{MAX_PRIOR_ROWS}
use Rattle.ri_base.specs.declared.text.TheConstants.{DOCNO_BYTES}
use Rattle.ri_base.specs.Fields.{is_before}
use Rattle.ri_base.specs.Reading.{AllFit}
use Rattle.manifest.specs.Priors.{PriorTable, Row, is_p, is_q}

-- 0 < p, p at most q, and both below the limit
abbrev pub FitsBelief : Ratio → Type 0
FitsBelief f = ((f.p < 2 ^ 64) × (is_p f.p ≡ true)) × (((f.q < 2 ^ 64) × (is_q f.p f.q ≡ true)) × (record { p = f.p; q = f.q } ≡ f))

-- a docno behind another by its bytes, with a belief
abbrev pub FitsRow : List ℕ → Row → Type 0
FitsRow before r =
    ((nat_le 1 (length r.docno) && nat_le (length r.docno) DOCNO_BYTES ≡ true) × (is_docno r.docno && is_before before r.docno ≡ true))
    × (FitsBelief r.belief × (record { docno = r.docno; belief = r.belief } ≡ r))

abbrev pub FitRows : List Row → Type 0
FitRows rs = ((length rs < 2 ^ 32) × (nat_le (length rs) MAX_PRIOR_ROWS ≡ true)) × ((length rs ≡ length rs) × AllFit FitsRow (λ _ r. r.docno) [] rs)

abbrev pub FitsRest : Option Ratio → Type 0
FitsRest None = Unit {0}
FitsRest (Some f) = FitsBelief f

abbrev pub IsPrior : PriorTable → Type 0
IsPrior t = FitsRest t.rest × FitRows t.rows
