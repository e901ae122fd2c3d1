-- Rows by their docnos.
use Rattle.std.proofs.Common.{ℕ, ◌≡◌, Bool, true, false, List, [], ◌∷◌, ◌++◌, refl, ap, ◌∙◌, Option, is_some, true≢false}
use Rattle.std.specs.Map.{lookup}
use Rattle.indexmap.specs.IndexMap.{insert_entry}
use Rattle.ri_base.specs.Ratio.{Ratio, ratio_of}
use Rattle.prior_lines.specs.Rows.{Kept, row_of, rows_seen}
use Rattle.std.specs.Str.{bytes_eq}
use Rattle.std.specs.Option.{option_map}
use Rattle.ri_base.specs.declared.fraction.Fraction.{Fraction}

-- a row is found in what is seen of the rows where it is found in them
pub has_same : (t : List ℕ → Bool) (es : List (List ℕ × Fraction)) → is_some (lookup t es) ≡ is_some (lookup t (rows_seen es))
has_same t [] = refl
has_same t (e ∷ es) = by (t e.0) refl (has_same t es)
  where
    by : (v : Bool) → t e.0 ≡ v → is_some (lookup t es) ≡ is_some (lookup t (rows_seen es)) → is_some (lookup t (e ∷ es)) ≡ is_some (lookup t (rows_seen (e ∷ es)))
    by true is further = rw is refl
    by false is further = rw is further

-- a row of a new docno goes last
pub pushed : (eq : List ℕ → List ℕ → Bool) (es : List (List ℕ × Fraction)) (k : List ℕ) (v : Fraction) → is_some (lookup (eq k) (rows_seen es)) ≡ false
    → rows_seen (insert_entry eq es k v) ≡ rows_seen es ++ (k, ratio_of v) ∷ []
pushed eq [] k v none = refl
pushed eq (e ∷ es) k v none = by (eq k e.0) refl none (pushed eq es k v)
  where
    by : (b : Bool) → eq k e.0 ≡ b → is_some (lookup (eq k) (rows_seen (e ∷ es))) ≡ false
        → (is_some (lookup (eq k) (rows_seen es)) ≡ false → rows_seen (insert_entry eq es k v) ≡ rows_seen es ++ (k, ratio_of v) ∷ [])
        → rows_seen (insert_entry eq (e ∷ es) k v) ≡ rows_seen (e ∷ es) ++ (k, ratio_of v) ∷ []
    by true is none further = absurd (true≢false (rw is at none))
    by false is none further = rw is (ap (λ rest. (e.0, ratio_of e.1) ∷ rest) (further (rw is at none)))

abbrev kept_of : Option Ratio → List (List ℕ × Ratio) → Kept
kept_of o r = record { rest = o; rows = r }

pub pushed_view : (rest : Option Fraction) (es new : List (List ℕ × Fraction)) (k : List ℕ) (v : Fraction) (now : Kept) → kept_of (option_map ratio_of rest) (rows_seen es) ≡ now → is_some (row_of k now.rows) ≡ false → new ≡ insert_entry bytes_eq es k v
    → kept_of (option_map ratio_of rest) (rows_seen new) ≡ kept_of now.rest (now.rows ++ (k, ratio_of v) ∷ [])
pushed_view rest es new k v now is none e =
    let rests : option_map ratio_of rest ≡ now.rest = ap (λ (x : Kept). x.rest) is in
    let rows : rows_seen es ≡ now.rows = ap (λ (x : Kept). x.rows) is in
    let absent : is_some (lookup (bytes_eq k) (rows_seen es)) ≡ false = ap (λ r. is_some (lookup (bytes_eq k) r)) rows ∙ none in
    let more : rows_seen new ≡ now.rows ++ (k, ratio_of v) ∷ [] = ap rows_seen e ∙ pushed bytes_eq es k v absent ∙ ap (λ r. r ++ (k, ratio_of v) ∷ []) rows in
    ap (λ o. kept_of o (rows_seen new)) rests ∙ ap (kept_of now.rest) more
