-- Marks that are made one after the other.
use Rattle.std.proofs.Common.{◌≡◌, ◌<◌, ◌+◌, ◌==◌, ◌||◌, ℕ, zero, suc, Bool, true, false, List, [], ◌∷◌, ◌++◌, length, set, refl, sym, ap, ◌∙◌, arith}
use Rattle.std.specs.Prelude.{replicate}
use Rattle.std.specs.List.{list_any}
use Rattle.std.proofs.lemmas.Bool.{eq-eqb, ne_eqb}
use Rattle.std.proofs.lemmas.List.Folds.{list_any-append}
use Rattle.repository.specs.Stands.{marks_from}

pub length-marks : (id n : ℕ) (ids : List ℕ) → length (marks_from id n ids) ≡ n
length-marks id zero ids = refl
length-marks id (suc n) ids = ap suc (length-marks (id + 1) n ids)

pub no-marks : (id n : ℕ) → marks_from id n [] ≡ replicate n false
no-marks id zero = refl
no-marks id (suc n) = ap (λ ms. false ∷ ms) (no-marks (id + 1) n)

or-false : (b : Bool) → (b || false) ≡ b
or-false true = refl
or-false false = refl

or-true : (b : Bool) → (b || true) ≡ true
or-true true = refl
or-true false = refl

among : (k : ℕ) (ids : List ℕ) → list_any (λ m. m == k) (ids ++ k ∷ []) ≡ true
among k ids = list_any-append (λ m. m == k) ids (k ∷ []) ∙ ap (λ b. list_any (λ m. m == k) ids || (b || false)) (eq-eqb k k refl) ∙ or-true _

not-among : (k j : ℕ) (ids : List ℕ) → (j ≡ k → ⊥) → list_any (λ m. m == k) (ids ++ j ∷ []) ≡ list_any (λ m. m == k) ids
not-among k j ids ne =
    list_any-append (λ m. m == k) ids (j ∷ []) ∙ ap (λ b. list_any (λ m. m == k) ids || (b || false)) (ne_eqb j k ne) ∙ or-false _

marks-below : (id n j : ℕ) (ids : List ℕ) → j < id → marks_from id n (ids ++ j ∷ []) ≡ marks_from id n ids
marks-below id zero j ids below = refl
marks-below id (suc n) j ids below =
    ap (λ b. b ∷ marks_from (id + 1) n (ids ++ j ∷ [])) (not-among id j ids (λ e. omega (arith, e, below))) ∙ ap (λ ms. list_any (λ m. m == id) ids ∷ ms) (marks-below (id + 1) n j ids (omega (arith, below)))

-- one id more among them
marks-more : (id n k : ℕ) (ids : List ℕ) → marks_from id n (ids ++ (id + k) ∷ []) ≡ set (marks_from id n ids) k true
marks-more id zero k ids = refl
marks-more id (suc n) zero ids =
    let same : id + 0 ≡ id = omega arith in
    let here : list_any (λ m. m == id) (ids ++ (id + 0) ∷ []) ≡ true = ap (λ j. list_any (λ m. m == id) (ids ++ j ∷ [])) same ∙ among id ids in
    ap (λ b. b ∷ marks_from (id + 1) n (ids ++ (id + 0) ∷ [])) here ∙ ap (λ ms. true ∷ ms) (marks-below (id + 1) n (id + 0) ids (omega arith))
marks-more id (suc n) (suc k) ids =
    let shift : id + suc k ≡ (id + 1) + k = omega arith in
    ap (λ b. b ∷ marks_from (id + 1) n (ids ++ (id + suc k) ∷ [])) (not-among id (id + suc k) ids (λ e. omega (arith, e)))
    ∙ ap (λ j. list_any (λ m. m == id) ids ∷ marks_from (id + 1) n (ids ++ j ∷ [])) shift
    ∙ ap (λ ms. list_any (λ m. m == id) ids ∷ ms) (marks-more (id + 1) n k ids)

pub mark-more : (n k : ℕ) (ids : List ℕ) → set (marks_from 0 n ids) k true ≡ marks_from 0 n (ids ++ k ∷ [])
mark-more n k ids =
    let same : k ≡ 0 + k = omega arith in
    sym (ap (λ j. marks_from 0 n (ids ++ j ∷ [])) same ∙ marks-more 0 n k ids)
