-- Rows in rising order of their docnos are those of a prior.
use Rattle.std.proofs.Common.{ℕ, zero, suc, ◌≡◌, ◌<◌, ◌≤◌, ◌+◌, ◌==◌, true, false, List, [], ◌∷◌, length, map, Option, Some, None, refl, sym, ap, ◌∙◌, subst, arith}
use Rattle.std.specs.Prelude.{All, IfSome, slice_index_or}
use Rattle.std.specs.Cmp.{unsigned_ties}
use Rattle.std.specs.Cmp.Lexicographic.{nat_list_cmp_total, slice_cmp}
use Rattle.std.specs.List.{IsDistinct}
use Rattle.std.specs.List.Sorted.{IsPermutation, IsSorted}
use Rattle.std.proofs.lemmas.List.Sorted.{All-permutation, IsPermutation-map, length_permutation}
use Rattle.std.specs.Map.{keys_of}
use Rattle.std.specs.Ordering.{is_eq, is_lt, nat_cmp, ordering_reverse, ordering_then}
use Rattle.std.specs.declared.cmp.Ordering.{Ordering}
use Rattle.std.specs.declared.cmp.Ordering.TheVariants.{Less, Equal, Greater}
use Rattle.std.specs.Str.{bytes_eq}
use Rattle.std.specs.Option.{option_map}
use Rattle.ri_base.specs.Ratio.{Ratio, ratio_of}
use Rattle.ri_base.specs.Text.{is_docno}
use Rattle.ri_base.specs.declared.fraction.Fraction.{Fraction}
use Rattle.ri_base.specs.declared.limits.TheConstants.{MAX_PRIOR_ROWS, PRIOR_LIMIT}
use Rattle.ri_base.specs.Fields.{is_before}
use Rattle.ri_base.specs.Reading.{AllFit}
use Rattle.manifest.specs.PriorFits.{FitsBelief, FitsRest, FitsRow, IsPrior}
use Rattle.manifest.specs.Priors.{Row, is_p, is_q, row_of}
use Rattle.prior_lines.specs.Rows.{IsKept, IsSmall, Kept, prior_row, rows_seen}

-- ORDER

equal_bytes : (x y : List ℕ) → slice_cmp nat_cmp x y ≡ Equal → bytes_eq x y ≡ true
equal_bytes [] [] e = refl
equal_bytes [] (b ∷ y) e = cc
equal_bytes (a ∷ x) [] e = cc
equal_bytes (a ∷ x) (b ∷ y) e = by (nat_cmp a b) refl e (equal_bytes x y)
  where
    by : (v : Ordering) → nat_cmp a b ≡ v → ordering_then v (slice_cmp nat_cmp x y) ≡ Equal → (slice_cmp nat_cmp x y ≡ Equal → bytes_eq x y ≡ true) → bytes_eq (a ∷ x) (b ∷ y) ≡ true
    by Less c e further = cc
    by Equal c e further = let same : (a == b) ≡ true = unsigned_ties a b ∙ ap is_eq c in rw (same, further e) refl
    by Greater c e further = cc

before_of : (x y : List ℕ) → is_lt (slice_cmp nat_cmp y x) ≡ false → bytes_eq x y ≡ false → is_before x y ≡ true
before_of x y notless other = by (slice_cmp nat_cmp x y) refl
  where
    by : (v : Ordering) → slice_cmp nat_cmp x y ≡ v → is_before x y ≡ true
    by Less c = rw c refl
    by Equal c = absurd (let same = equal_bytes x y c in cc)
    by Greater c = absurd (let less : slice_cmp nat_cmp y x ≡ Less = nat_list_cmp_total.antisymm y x ∙ ap ordering_reverse c in let is : is_lt (slice_cmp nat_cmp y x) ≡ true = rw less refl in cc)

-- ROWS

abbrev GoodRow : List ℕ × Fraction → Type 0
GoodRow e = (is_docno e.0 ≡ true) × (e.1.q < PRIOR_LIMIT)

belief_fits : (f : Fraction) → f.q < PRIOR_LIMIT → FitsBelief (ratio_of f)
belief_fits f small =
    let p : is_p f.p ≡ true = grind (arith, f.positive, f.at_most_one, small) in
    let q : is_q f.p f.q ≡ true = grind (arith, f.at_most_one, small) in
    ((omega (arith, f.at_most_one, f.fits), p), ((f.fits, q), refl))

row_fits : (before : List ℕ) (e : List ℕ × Fraction) → GoodRow e → is_before before e.0 ≡ true → FitsRow before (row_of e)
row_fits before e good first =
    let named = good.0 in
    ((grind (arith, named), rw (named, first) refl), (belief_fits e.1 good.1, refl))

-- this docno stands before the first row
abbrev IsAhead : List ℕ → List (List ℕ × Fraction) → Type 0
IsAhead before [] = Unit {0}
IsAhead before (e ∷ es) = is_before before e.0 ≡ true

next_ahead : (e : List ℕ × Fraction) (es : List (List ℕ × Fraction)) → IsSorted (slice_cmp nat_cmp) (keys_of (e ∷ es)) → IsDistinct bytes_eq (keys_of (e ∷ es)) → IsAhead e.0 es
unfolding IsDistinct
next_ahead e [] sorted distinct = tt
next_ahead e (x ∷ es) sorted distinct = before_of e.0 x.0 (sorted 0 [] (omega arith) (omega arith)) distinct.0.0

pub rows_fit : (before : List ℕ) (es : List (List ℕ × Fraction)) → All GoodRow es → IsSorted (slice_cmp nat_cmp) (keys_of es) → IsDistinct bytes_eq (keys_of es) → IsAhead before es → AllFit FitsRow (λ _ r. r.docno) before (map row_of es)
unfolding IsDistinct
rows_fit before [] good sorted distinct first = tt
rows_fit before (e ∷ es) good sorted distinct first =
    let further : IsSorted (slice_cmp nat_cmp) (keys_of es) = λ k d low high. (let e : suc k + 1 ≡ suc (k + 1) = omega arith in rw e at (sorted (suc k) d (omega arith) (omega arith))) in
    (row_fits before e (good 0 e (omega arith)) first, rows_fit e.0 es (λ k d lt. good (suc k) d (omega arith)) further distinct.1 (next_ahead e es sorted distinct))

-- WHAT IS KEPT

abbrev seen : List ℕ × Fraction → List ℕ × Ratio
seen e = (e.0, ratio_of e.1)

at_seen : (es : List (List ℕ × Fraction)) (k : ℕ) (d : List ℕ × Fraction) → slice_index_or (rows_seen es) k (seen d) ≡ seen (slice_index_or es k d)
at_seen [] k d = refl
at_seen (e ∷ es) zero d = refl
at_seen (e ∷ es) (suc k) d = at_seen es k d

seen_length : (es : List (List ℕ × Fraction)) → length (rows_seen es) ≡ length es
seen_length [] = refl
seen_length (e ∷ es) = let more = seen_length es in omega (arith, more)

good_rows : (es : List (List ℕ × Fraction)) → All (λ r. is_docno r.0 ≡ true) (rows_seen es) → All (λ r. IsSmall r.1) (rows_seen es) → All GoodRow es
good_rows es named small = λ k d lt.
    let within : k < length (rows_seen es) = omega (arith, lt, seen_length es) in
    let same = at_seen es k d in
    (subst (λ (r : List ℕ × Ratio). is_docno r.0 ≡ true) same (named k (seen d) within), subst (λ (r : List ℕ × Ratio). IsSmall r.1) same (small k (seen d) within))

rest_fits : (rest : Option Fraction) → IfSome (option_map ratio_of rest) IsSmall → FitsRest (option_map ratio_of rest)
rest_fits None small = tt
rest_fits (Some f) small = belief_fits f small

row_length : (es : List (List ℕ × Fraction)) → length (map row_of es) ≡ length es
row_length [] = refl
row_length (e ∷ es) = let more = row_length es in omega (arith, more)

first_ahead : (es : List (List ℕ × Fraction)) → All GoodRow es → IsAhead [] es
first_ahead [] good = tt
first_ahead (e ∷ es) good = some e.0 (good 0 e (omega arith)).0
  where
    some : (docno : List ℕ) → is_docno docno ≡ true → is_before [] docno ≡ true
    some [] is = cc
    some (b ∷ docno) is = refl

module _ (rest : Option Fraction) (old es : List (List ℕ × Fraction)) (kept : Kept) (is : record { rest = option_map ratio_of rest; rows = rows_seen old } ≡ kept) (moved : IsPermutation old es) where
  pub sorted_is_prior : IsKept kept → IsSorted (slice_cmp nat_cmp) (keys_of es) → IsDistinct bytes_eq (keys_of es) → IsPrior (record { rest = option_map ratio_of rest; rows = map row_of es })
  sorted_is_prior within sorted distinct =
      let now : IsKept (record { rest = option_map ratio_of rest; rows = rows_seen old }) = subst IsKept (sym is) within in
      let good : All GoodRow es = All-permutation GoodRow old es moved (good_rows old now.named now.small) in
      let few : length (map row_of es) ≤ MAX_PRIOR_ROWS = omega (arith, now.few, seen_length old, row_length es, length_permutation old es moved) in
      (rest_fits rest now.small_rest, ((grind (arith, few), grind (arith, few)), (refl, rows_fit [] es good sorted distinct (first_ahead es good))))

  pub sorted_rows : IsPermutation (map prior_row kept.rows) (map row_of es)
  sorted_rows =
      let rows : rows_seen old ≡ kept.rows = ap (λ (k : Kept). k.rows) is in
      subst (λ xs. IsPermutation xs (map row_of es)) (sym (fused old) ∙ ap (map prior_row) rows) (IsPermutation-map {X = Row} row_of old es moved)
    where
      fused : (xs : List (List ℕ × Fraction)) → map prior_row (rows_seen xs) ≡ map row_of xs
      fused [] = refl
      fused (x ∷ xs) = ap (λ ys. row_of x ∷ ys) (fused xs)
