-- Lists of generated documents, by their numbers.
use Rattle.std.proofs.Common.{◌≡◌, ◌<◌, ◌≤◌, ◌+◌, ◌^◌, ◌∙◌, ◌++◌, ℕ, zero, suc, true, false, not, List, [], ◌∷◌, drop, map, refl, ap, arith}
use Rattle.std.specs.List.{All, range_with_len}
use Rattle.std.specs.Str.{bytes_eq}
use Rattle.std.proofs.lemmas.Bool.{cond-false, cond-true, false_from_ne_true, not_from_false, not_from_true, or_from, or_left, or_right}
use Rattle.std.proofs.lemmas.Fmt.{decimal_injective}
use Rattle.std.proofs.lemmas.List.Elements.{All-cons, All-head, All-nil, All-tail, All-weaker}
use Rattle.std.proofs.lemmas.Slice.Eq.{bytes_eq-Decides}
use Rattle.holdings.specs.Parts.{without}
use Rattle.generated_events.specs.Documents.{docno_of, generated}
use Rattle.desk.specs.Step.{is_live}

-- another number, of which the docno is another
pub record Differs (i j : ℕ) : Type 0 where
  pub small : j < 2 ^ 64
  pub other : i ≡ j → ⊥

same-docno : (i : ℕ) → bytes_eq (docno_of i) (docno_of i) ≡ true
same-docno i = (bytes_eq-Decides (docno_of i) (docno_of i)).1 refl

other-docno : (i j : ℕ) → i < 2 ^ 64 → Differs i j → bytes_eq (docno_of i) (docno_of j) ≡ false
other-docno i j small d = false_from_ne_true _ (λ e. d.other (decimal_injective i j small d.small (ap (drop 1) ((bytes_eq-Decides (docno_of i) (docno_of j)).0 e))))

pub below-differs : (i : ℕ) (xs : List ℕ) → i < 2 ^ 64 → All (λ j. j < i) xs → All (Differs i) xs
below-differs i xs small below = All-weaker (λ j. j < i) (Differs i) (λ j h. record { small = omega (arith, h, small); other = λ e. omega (arith, h, e) }) xs below

pub above-differs : (i a k : ℕ) → i < a → a + k ≤ 2 ^ 64 → All (Differs i) (range_with_len a k)
above-differs i a zero above few = All-nil (Differs i)
above-differs i a (suc k) above few =
    All-cons (Differs i) a (range_with_len (a + 1) k) (record { small = omega (arith, few); other = λ e. omega (arith, above, e) })
    (above-differs i (a + 1) k (omega (arith, above)) (omega (arith, few)))

module _ (i : ℕ) (small : i < 2 ^ 64) where
  pub not-live : (xs : List ℕ) → All (Differs i) xs → is_live (docno_of i) (map generated xs) ≡ false
  not-live [] differ = refl
  not-live (x ∷ xs) differ =
      or_from (bytes_eq (docno_of i) (docno_of x)) _ (other-docno i x small (All-head (Differs i) x xs differ)) (not-live xs (All-tail (Differs i) x xs differ))

  pub live-there : (done rest : List ℕ) → is_live (docno_of i) (map generated (done ++ i ∷ rest)) ≡ true
  live-there [] rest = or_left (bytes_eq (docno_of i) (docno_of i)) _ (same-docno i)
  live-there (x ∷ done) rest = or_right (bytes_eq (docno_of i) (docno_of x)) _ (live-there done rest)

  without-none : (xs : List ℕ) → All (Differs i) xs → without (docno_of i) (map generated xs) ≡ map generated xs
  without-none [] differ = refl
  without-none (x ∷ xs) differ =
      cond-true (not (bytes_eq (docno_of i) (docno_of x))) _ _ (not_from_false _ (other-docno i x small (All-head (Differs i) x xs differ)))
      ∙ ap (λ ds. generated x ∷ ds) (without-none xs (All-tail (Differs i) x xs differ))

  pub without-one : (done rest : List ℕ) → All (Differs i) done → All (Differs i) rest → without (docno_of i) (map generated (done ++ i ∷ rest)) ≡ map generated (done ++ rest)
  without-one [] rest before behind = cond-false (not (bytes_eq (docno_of i) (docno_of i))) _ _ (not_from_true _ (same-docno i)) ∙ without-none rest behind
  without-one (x ∷ done) rest before behind =
      cond-true (not (bytes_eq (docno_of i) (docno_of x))) _ _ (not_from_false _ (other-docno i x small (All-head (Differs i) x done before)))
      ∙ ap (λ ds. generated x ∷ ds) (without-one done rest (All-tail (Differs i) x done before) behind)
