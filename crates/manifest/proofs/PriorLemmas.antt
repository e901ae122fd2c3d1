-- the rows of a prior are few
use Rattle.std.proofs.Common.{◌≡◌, ◌+◌, ◌<◌, ℕ, ◌^◌, List, [], ◌∷◌, ◌++◌, drop, get_or, length, map, refl, sym, ap, subst, ◌∙◌}
use Rattle.std.specs.List.{flat_map}
use Rattle.std.proofs.lemmas.List.Concat.{flat_map-cons}
use Rattle.std.proofs.lemmas.List.{length-map}
use Rattle.ri_base.specs.declared.fraction.Fraction.{Fraction}
use Rattle.manifest.specs.PriorFits.{IsPrior}
use Rattle.ri_base.proofs.Written.{one_written}
use Rattle.manifest.specs.Priors.{PriorTable, row_of, spelled_row}

pub few_rows : (t : PriorTable) (rows : List (List ℕ × Fraction)) → IsPrior t → map row_of rows ≡ t.rows → length rows < 2 ^ 32
few_rows t rows fit e = subst (λ n. n < 2 ^ 32) (ap length (sym e) ∙ length-map rows row_of) fit.1.0.0

abbrev Beliefs : Type 0
Beliefs = List (List ℕ × Fraction)

abbrev spelled : List ℕ × Fraction → List ℕ
spelled x = spelled_row (row_of x)

of_rows : (rows : Beliefs) → flat_map spelled_row (map row_of rows) ≡ flat_map spelled rows
of_rows [] = refl
of_rows (x ∷ rows) = flat_map-cons spelled_row (row_of x) (map row_of rows) ∙ ap (λ l. spelled x ++ l) (of_rows rows) ∙ sym (flat_map-cons spelled x rows)

pub one_row : (rows : Beliefs) (i : ℕ) (x : List ℕ × Fraction) (out more total : List ℕ) → i < length rows → x ≡ get_or rows i x → more ≡ out ++ spelled_row (row_of x)
    → out ++ flat_map spelled_row (map row_of (drop i rows)) ≡ total → more ++ flat_map spelled_row (map row_of (drop (i + 1) rows)) ≡ total
one_row rows i x out more total lt is h so_far =
    ap (λ l. more ++ l) (of_rows (drop (i + 1) rows)) ∙ one_written spelled rows i x out more total lt is h (ap (λ l. out ++ l) (sym (of_rows (drop i rows))) ∙ so_far)
