-- Rows that are kept stay.
use Rattle.std.proofs.Common.{ℕ, ◌≡◌, ◌≤◌, Bool, true, false, List, [], ◌∷◌, ◌++◌, length, Option, Some, None, is_some, refl, arith, length-append}
use Rattle.std.specs.Map.{lookup}
use Rattle.std.specs.Str.{bytes_eq}
use Rattle.line_reader.specs.Texts.{Placed}
use Rattle.ri_base.specs.Ratio.{Ratio}
use Rattle.ri_base.specs.declared.limits.TheConstants.{MAX_PRIOR_ROWS}
use Rattle.prior_lines.proofs.KeptLemmas.{room_for}
use Rattle.prior_lines.specs.Row.{row}
use Rattle.prior_lines.specs.Rows.{Kept, docno_step, is_full, line_step, outcome, rest_step, row_of, row_step}
use Rattle.prior_lines.specs.declared.row.RowKey.{RowKey}
use Rattle.prior_lines.specs.declared.row.RowKey.TheVariants.{Docno, Rest}

lookup_front : (t : List ℕ → Bool) (es fs : List (List ℕ × Ratio)) (f : Ratio) → lookup t es ≡ Some f → lookup t (es ++ fs) ≡ Some f
lookup_front t [] fs f e = cc
lookup_front t (r ∷ es) fs f e = by (t r.0) refl e (lookup_front t es fs f)
  where
    by : (v : Bool) → t r.0 ≡ v → lookup t (r ∷ es) ≡ Some f → (lookup t es ≡ Some f → lookup t (es ++ fs) ≡ Some f) → lookup t (r ∷ es ++ fs) ≡ Some f
    by true is e further = rw is (rw is at e)
    by false is e further = rw is (further (rw is at e))

-- what each step keeps, for any property of the rows
module _ (P : List (List ℕ × Ratio) → Type 0) (grows : (rows : List (List ℕ × Ratio)) (docno : List ℕ) (g : Ratio) → is_full rows ≡ false → P rows → P (rows ++ (docno, g) ∷ [])) where
  rest_keeps : (kept : Kept) (g : Ratio) → P kept.rows → P (rest_step kept g).0.rows
  rest_keeps kept g p = by (is_some kept.rest) refl
    where
      by : (v : Bool) → is_some kept.rest ≡ v → P (rest_step kept g).0.rows
      by true is = rw is p
      by false is = rw is p

  docno_keeps : (kept : Kept) (place : ℕ) (docno : List ℕ) (g : Ratio) → P kept.rows → P (docno_step kept place docno g).0.rows
  docno_keeps kept place docno g p = by (is_some (row_of docno kept.rows)) (is_full kept.rows) refl refl
    where
      by : (v w : Bool) → is_some (row_of docno kept.rows) ≡ v → is_full kept.rows ≡ w → P (docno_step kept place docno g).0.rows
      by true w has full = rw has p
      by false true has full = rw (has, full) p
      by false false has full = rw (has, full) (grows kept.rows docno g full p)

  row_keeps : (kept : Kept) (place : ℕ) (r : Option (RowKey × Ratio)) → P kept.rows → P (row_step kept place r).0.rows
  row_keeps kept place None p = p
  row_keeps kept place (Some (Rest, g)) p = rest_keeps kept g p
  row_keeps kept place (Some (Docno docno, g)) p = docno_keeps kept place docno g p

  line_keeps : (kept : Kept) (text : Placed) → P kept.rows → P (line_step kept text).0.rows
  line_keeps kept (place, None) p = p
  line_keeps kept (place, Some text) p = row_keeps kept place (row text) p

  keeps : (kept : Kept) (texts : List Placed) → P kept.rows → P (outcome kept texts).0.rows
  unfolding outcome
  keeps kept [] p = p
  keeps kept (text ∷ texts) p = keeps (line_step kept text).0 texts (line_keeps kept text p)

pub row_stays : (kept : Kept) (texts : List Placed) (docno : List ℕ) (f : Ratio) → row_of docno kept.rows ≡ Some f → row_of docno (outcome kept texts).0.rows ≡ Some f
row_stays kept texts docno f e = keeps (λ rows. row_of docno rows ≡ Some f) (λ rows other g full h. lookup_front (bytes_eq docno) rows ((other, g) ∷ []) f h) kept texts e

pub rows_few : (kept : Kept) (texts : List Placed) → length kept.rows ≤ MAX_PRIOR_ROWS → length (outcome kept texts).0.rows ≤ MAX_PRIOR_ROWS
rows_few kept texts few = keeps (λ rows. length rows ≤ MAX_PRIOR_ROWS) (λ rows other g full h. omega (arith, room_for rows full, length-append rows ((other, g) ∷ []))) kept texts few
