-- The rows of priors, taken one by one.
use Rattle.std.proofs.Common.{◌≡◌, ◌<◌, ◌≤◌, ◌+◌, ℕ, zero, suc, Bool, false, true, List, [], ◌∷◌, ◌++◌, get_or, length, map, take, refl, sym, ap, subst, ◌∙◌, arith}
use Rattle.std.specs.Cmp.Lexicographic.{slice_cmp}
use Rattle.std.specs.List.{AllByRecursion, list_any}
use Rattle.std.specs.Ordering.{is_eq, nat_cmp}
use Rattle.std.specs.Str.{bytes_eq}
use Rattle.std.specs.declared.cmp.Ordering.TheVariants.{Less}
use Rattle.std.proofs.lemmas.Bool.{and_parts}
use Rattle.std.proofs.lemmas.List.{get_or-map, length-map, map-append, take_all, take_more}
use Rattle.std.proofs.lemmas.Map.Text.{is_eq-slice_cmp}
use Rattle.std.proofs.lemmas.Slice.Eq.{bytes_eq-Decides}
use Rattle.ri_base.specs.Fields.{is_before}
use Rattle.ri_base.specs.Ratio.{Ratio}
use Rattle.ri_base.specs.declared.fraction.Fraction.{Fraction}
use Rattle.ri_base.specs.Reading.{AllFit}
use Rattle.ri_base.specs.Text.{is_docno}
use Rattle.ri_base.proofs.Order.{Rises, less_from_before, sorted_from}
use Rattle.belief_nodes.specs.Priors.{has_row, with_row}
use Rattle.manifest.specs.PriorFits.{FitsRow, IsPrior}
use Rattle.manifest.specs.Priors.{PriorTable, Row, row_of}
use Rattle.desk.specs.Priors.{row_told, table_prior}

-- ---- rows that rise by their docnos

rises : (before : List ℕ) (rs : List Row) → AllFit FitsRow (λ _ r. r.docno) before rs → Rises before (map (λ (r : Row). r.docno) rs)
rises before [] fit = tt
rises before (r ∷ rs) fit = (less_from_before before r.docno (and_parts (is_docno r.docno) (is_before before r.docno) fit.0.0.1).1, rises r.docno rs fit.1)

less-differs : (x y : List ℕ) → slice_cmp nat_cmp x y ≡ Less → bytes_eq y x ≡ false
less-differs x y less = by (bytes_eq y x) refl
  where
    by : (v : Bool) → bytes_eq y x ≡ v → bytes_eq y x ≡ false
    by false h = h
    by true h = absurd (
        let same : bytes_eq x y ≡ true = (bytes_eq-Decides x y).1 (sym ((bytes_eq-Decides y x).0 h)) in
        let other : bytes_eq x y ≡ false = sym (is_eq-slice_cmp x y) ∙ ap is_eq less in
        let both : true ≡ false = sym same ∙ other in
        cc
        )

all-of : (y : List ℕ) (qs : List Row) (j : ℕ) (s : Row) → AllByRecursion (λ z. slice_cmp nat_cmp y z ≡ Less) (map (λ (q : Row). q.docno) qs) → j < length qs → s ≡ get_or qs j s → slice_cmp nat_cmp y s.docno ≡ Less
all-of y [] j s all within is = absurd (omega (arith, within))
all-of y (q ∷ qs) zero s all within is = subst (λ (r : Row). slice_cmp nat_cmp y r.docno ≡ Less) (sym is) all.0
all-of y (q ∷ qs) (suc j) s all within is = all-of y qs j s all.1 (omega (arith, within)) is

-- no row before has the docno of a later one
none-before : (before : List ℕ) (rs : List Row) (i : ℕ) (r : Row) → Rises before (map (λ (x : Row). x.docno) rs) → i < length rs → r ≡ get_or rs i r
    → list_any (λ (row : List ℕ × Ratio). bytes_eq r.docno row.0) (map row_told (take i rs)) ≡ false
none-before before [] i r rise inside at = absurd (omega (arith, inside))
none-before before (x ∷ rs) zero r rise inside at = refl
none-before before (x ∷ rs) (suc i) r rise inside at = rw (first, none-before x.docno rs i r rise.1 (omega (arith, inside)) at) refl
  where
    first : bytes_eq r.docno x.docno ≡ false
    first = less-differs x.docno r.docno (all-of x.docno rs i r (sorted_from x.docno (map (λ (q : Row). q.docno) rs) rise.1).0 (omega (arith, inside)) at)

pub no-row-yet : (table : PriorTable) (i : ℕ) (r : Row) → IsPrior table → i < length table.rows → r ≡ get_or table.rows i r → (rest : Ratio) → has_row (table_prior (map row_told (take i table.rows)) rest) r.docno ≡ false
no-row-yet table i r form inside at rest = none-before [] table.rows i r (rises [] table.rows form.1.1.1) inside at

-- one row more
pub row-next : (rows : List Row) (i : ℕ) (r : Row) (rest : Ratio) → i < length rows → r ≡ get_or rows i r
    → with_row (table_prior (map row_told (take i rows)) rest) r.docno r.belief ≡ table_prior (map row_told (take (i + 1) rows)) rest
row-next rows i r rest inside at =
    let more : take (i + 1) rows ≡ take i rows ++ r ∷ [] = take_more rows i r inside ∙ ap (λ x. take i rows ++ x ∷ []) (sym at) in
    ap (λ rs. table_prior rs rest) (sym (ap (map row_told) more ∙ map-append row_told (take i rows) (r ∷ [])))

-- all of them
pub rows-all : (rows : List Row) (i : ℕ) (rest : Ratio) → length rows ≤ i → table_prior (map row_told (take i rows)) rest ≡ table_prior (map row_told rows) rest
rows-all rows i rest past = ap (λ rs. table_prior (map row_told rs) rest) (take_all i rows past)

-- a row as it is kept
pub row-at : (items : List (List ℕ × Fraction)) (rows : List Row) (i : ℕ) (x : List ℕ × Fraction) → map row_of items ≡ rows → i < length items → x ≡ get_or items i x → (i < length rows) × (row_of x ≡ get_or rows i (row_of x))
row-at items rows i x same inside at = (
  omega (arith, inside, length-map items row_of, ap length same),
  ap row_of at ∙ sym (get_or-map row_of items i x (row_of x) inside) ∙ ap (λ rs. get_or rs i (row_of x)) same,
)
