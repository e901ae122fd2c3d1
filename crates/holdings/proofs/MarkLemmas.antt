-- The marks that a deletion makes.
use Rattle.std.proofs.Common.{◌≡◌, ℕ, zero, suc, Bool, true, false, not, List, [], ◌∷◌, map, set, get_or, refl, ap, sym, ◌∙◌, arith, Some, None, cond}
use Rattle.std.specs.Str.{bytes_eq}
use Rattle.std.proofs.lemmas.Bool.{false_from_ne_true}
use Rattle.std.proofs.lemmas.Slice.Eq.{bytes_eq-Decides}
use Rattle.ri_base.specs.Documents.{Document}
use Rattle.disk_index.specs.Snapshots.{Marked, unmarked}
use Rattle.holdings.specs.Kept.{cell, marked_at, row}
use Rattle.holdings.specs.MarkedParts.{docnos_in, marked_with}
use Rattle.holdings.specs.Marks.{cells, marks_with}
use Rattle.holdings.specs.Parts.{without}
use Rattle.holdings.proofs.PlacedLemmas.{some_same}

module _ (k : List ℕ) where
  -- what isn't marked afterwards are the documents of other docnos
  pub unmarked-marks_with : (ds : List Document) (ms : List Bool) → unmarked ds (marks_with k (map (λ (d : Document). d.docno) ds) ms) ≡ without k (unmarked ds ms)
  unmarked-marks_with [] ms = refl
  unmarked-marks_with (d ∷ ds) [] = refl
  unmarked-marks_with (d ∷ ds) (true ∷ ms) = unmarked-marks_with ds ms
  unmarked-marks_with (d ∷ ds) (false ∷ ms) = by (bytes_eq k d.docno) (unmarked-marks_with ds ms)
    where
      by : (b : Bool) → unmarked ds (marks_with k (map (λ (d : Document). d.docno) ds) ms) ≡ without k (unmarked ds ms)
          → unmarked (d ∷ ds) (b ∷ marks_with k (map (λ (d : Document). d.docno) ds) ms) ≡ cond (not b) (d ∷ without k (unmarked ds ms)) (without k (unmarked ds ms))
      by true rest = rest
      by false rest = ap (λ l. d ∷ l) rest

  other : (x : List ℕ) → (x ≡ k → ⊥) → bytes_eq k x ≡ false
  other x ne = false_from_ne_true _ (λ e. ne (sym ((bytes_eq-Decides k x).0 e)))

  -- none of these documents has the docno
  marks_with-none : (xs : List (List ℕ)) (ms : List Bool) → ((j : ℕ) → get_or (cells xs ms) j None ≡ Some k → ⊥) → marks_with k xs ms ≡ ms
  marks_with-none [] ms away = refl
  marks_with-none (x ∷ xs) [] away = refl
  marks_with-none (x ∷ xs) (true ∷ ms) away = ap (λ l. true ∷ l) (marks_with-none xs ms (λ j e. away (suc j) e))
  marks_with-none (x ∷ xs) (false ∷ ms) away =
      ap (λ b. b ∷ marks_with k xs ms) (other x (λ e. away 0 (ap Some e))) ∙ ap (λ l. false ∷ l) (marks_with-none xs ms (λ j e. away (suc j) e))

  -- one of them has it, and is marked
  set-marks_with : (xs : List (List ℕ)) (ms : List Bool) (i : ℕ) → get_or (cells xs ms) i None ≡ Some k → ((j : ℕ) → get_or (cells xs ms) j None ≡ Some k → j ≡ i) → set ms i true ≡ marks_with k xs ms
  set-marks_with [] ms i at once = cc
  set-marks_with (x ∷ xs) [] i at once = cc
  set-marks_with (x ∷ xs) (true ∷ ms) zero at once = cc
  set-marks_with (x ∷ xs) (false ∷ ms) zero at once =
      let rest : marks_with k xs ms ≡ ms = marks_with-none xs ms (λ j e. absurd (omega (arith, once (suc j) e))) in
      sym (ap (λ b. b ∷ marks_with k xs ms) ((bytes_eq-Decides k x).1 (sym (some_same _ _ at))) ∙ ap (λ l. true ∷ l) rest)
  set-marks_with (x ∷ xs) (true ∷ ms) (suc i) at once = ap (λ l. true ∷ l) (set-marks_with xs ms i at (λ j e. omega (arith, once (suc j) e)))
  set-marks_with (x ∷ xs) (false ∷ ms) (suc i) at once =
      let here : bytes_eq k x ≡ false = other x (λ e. absurd (omega (arith, once 0 (ap Some e)))) in
      ap (λ l. false ∷ l) (set-marks_with xs ms i at (λ j e. omega (arith, once (suc j) e))) ∙ sym (ap (λ b. b ∷ marks_with k xs ms) here)

  with_marks : (m : Marked) → marks_with k (docnos_in m.source) m.marks ≡ m.marks → marked_with k m ≡ m
  with_marks m e = ap (λ ms. record { source = m.source; marks = ms }) e

  -- no part has the docno
  map-marked_with-none : (parts : List Marked) → ((q j : ℕ) → cell (map row parts) q j ≡ Some k → ⊥) → map (marked_with k) parts ≡ parts
  map-marked_with-none [] away = refl
  map-marked_with-none (m ∷ ms) away =
      ap (λ x. x ∷ map (marked_with k) ms) (with_marks m (marks_with-none (docnos_in m.source) m.marks (λ j e. away 0 j e)))
      ∙ ap (λ l. m ∷ l) (map-marked_with-none ms (λ q j e. away (suc q) j e))

  -- the mark at the one place of a docno is all that its deletion marks
  pub marked_at-marked_with : (parts : List Marked) (p i : ℕ) → cell (map row parts) p i ≡ Some k → ((q j : ℕ) → cell (map row parts) q j ≡ Some k → (q ≡ p) × (j ≡ i))
      → marked_at parts p i ≡ map (marked_with k) parts
  marked_at-marked_with [] p i at once = cc
  marked_at-marked_with (m ∷ ms) zero i at once =
      let here : set m.marks i true ≡ marks_with k (docnos_in m.source) m.marks = set-marks_with (docnos_in m.source) m.marks i at (λ j e. (once 0 j e).1) in
      let rest : map (marked_with k) ms ≡ ms = map-marked_with-none ms (λ q j e. absurd (omega (arith, (once (suc q) j e).0))) in
      ap (λ x. record { source = m.source; marks = x } ∷ ms) here ∙ ap (λ l. marked_with k m ∷ l) (sym rest)
  marked_at-marked_with (m ∷ ms) (suc p) i at once =
      let here : marked_with k m ≡ m = with_marks m (marks_with-none (docnos_in m.source) m.marks (λ j e. absurd (omega (arith, (once 0 j e).0)))) in
      ap (λ l. m ∷ l) (marked_at-marked_with ms p i at (λ q j e. (let o = once (suc q) j e in (omega (arith, o.0), o.1)))) ∙ ap (λ x. x ∷ map (marked_with k) ms) (sym here)
