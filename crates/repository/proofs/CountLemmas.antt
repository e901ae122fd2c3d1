-- Numbers of files are distinct where each is counted once at most.
use Rattle.std.proofs.Common.{◌≡◌, ◌≤◌, ◌<◌, ◌+◌, ◌==◌, ◌⊎◌, inl, inr, ℕ, cond, Bool, true, false, List, [], ◌∷◌, ◌++◌, Option, None, Some, nat_le, refl, sym, ap, ◌∙◌, arith, zero-add}
use Rattle.std.proofs.lemmas.Bool.{eq-eqb, eqb-true}
use Rattle.manifest.specs.Files.{numbers_of}
use Rattle.manifest.specs.Listing.{AreNumbered, IsNoneOf, all_numbers, prior_numbers}
use Rattle.manifest.specs.declared.manifest.PriorEntry.{PriorEntry}
use Rattle.manifest.specs.declared.manifest.SegEntry.{SegEntry}
use Rattle.repository.specs.Priors.{is_same, number_named, with_entry}
use Rattle.repository.specs.Stale.{with_old, with_stale}
use Rattle.repository.proofs.NumberLemmas.{clash}

abbrev pub one : ℕ → ℕ → ℕ
one k n = cond (k == n) 1 0

-- how often a number is among others
abbrev pub count : ℕ → List ℕ → ℕ
count k [] = 0
count k (n ∷ ns) = one k n + count k ns

decide : (k n : ℕ) → ((k ≡ n) × (one k n ≡ 1)) ⊎ ((k ≡ n → ⊥) × (one k n ≡ 0))
decide k n = by (k == n) refl
  where
    by : (b : Bool) → (k == n) ≡ b → ((k ≡ n) × (one k n ≡ 1)) ⊎ ((k ≡ n → ⊥) × (one k n ≡ 0))
    by true e = inl (eqb-true k n e, ap (λ b. cond b 1 0) e)
    by false e = inr ((λ same. clash (k == n) (eq-eqb k n same) e), ap (λ b. cond b 1 0) e)

own : (n : ℕ) → one n n ≡ 1
own n = ap (λ b. cond b 1 0) (eq-eqb n n refl)

-- ---- once at most

pub none-count : (k : ℕ) (ns : List ℕ) → IsNoneOf k ns → count k ns ≡ 0
none-count k [] none = refl
none-count k (n ∷ ns) none = elim (decide k n) [
  | inl same ↦ absurd (none.0 same.0)
  | inr other ↦ omega (arith, other.1, none-count k ns none.1)
]

pub count-none : (k : ℕ) (ns : List ℕ) → count k ns ≡ 0 → IsNoneOf k ns
count-none k [] zero = tt
count-none k (n ∷ ns) zero =
    let here : one k n ≡ 0 = omega (arith, zero) in
    ((λ same. (let some : one k n ≡ 1 = ap (λ m. one k m) (sym same) ∙ own k in omega (arith, here, some))), count-none k ns (omega (arith, zero)))

-- the number is counted once at most, and where it is it keeps its bounds
abbrev IsOnce : ℕ → List ℕ → ℕ → Type 0
IsOnce next ns k = (count k ns ≤ 1) × (1 ≤ count k ns → (1 ≤ k) × (k < next))

numbered-once : (next : ℕ) (ns : List ℕ) → AreNumbered next ns → (k : ℕ) → IsOnce next ns k
numbered-once next [] numbered k = (omega arith, λ some. absurd (omega (arith, some)))
numbered-once next (n ∷ ns) numbered k =
    let rest = numbered-once next ns numbered.1.1.1 k in
    elim (decide k n) [
      | inl same ↦
          let none : count k ns ≡ 0 = ap (λ m. count m ns) same.0 ∙ none-count n ns numbered.1.1.0 in
          (omega (arith, same.1, none), λ _. (omega (arith, same.0, numbered.0), omega (arith, same.0, numbered.1.0)))
      | inr other ↦ (omega (arith, other.1, rest.0), λ some. rest.1 (omega (arith, other.1, some)))
    ]

once-numbered : (next : ℕ) (ns : List ℕ) → ((k : ℕ) → IsOnce next ns k) → AreNumbered next ns
once-numbered next [] once = tt
once-numbered next (n ∷ ns) once =
    let here = once n in
    let bounds = here.1 (omega (arith, own n)) in
    let none : count n ns ≡ 0 = omega (arith, own n, here.0) in
    (bounds.0, (bounds.1, (count-none n ns none, once-numbered next ns (λ k. fewer k))))
  where
    fewer : (k : ℕ) → IsOnce next ns k
    fewer k = (let all = once k in (omega (arith, all.0), λ some. all.1 (omega (arith, some))))

-- what is counted alike is numbered alike
pub counted-numbered : (next : ℕ) (ns ms : List ℕ) → ((k : ℕ) → count k ms ≡ count k ns) → AreNumbered next ns → AreNumbered next ms
counted-numbered next ns ms same numbered = once-numbered next ms (λ k. (let once = numbered-once next ns numbered k in (omega (arith, same k, once.0), λ some. once.1 (omega (arith, same k, some)))))

-- some of them fewer
pub fewer-numbered : (next : ℕ) (ns ms : List ℕ) → ((k : ℕ) → count k ms ≤ count k ns) → AreNumbered next ns → AreNumbered next ms
fewer-numbered next ns ms fewer numbered = once-numbered next ms (λ k. (let once = numbered-once next ns numbered k in (omega (arith, fewer k, once.0), λ some. once.1 (omega (arith, fewer k, some)))))

-- ---- lists

pub count-append : (k : ℕ) (xs ys : List ℕ) → count k (xs ++ ys) ≡ count k xs + count k ys
count-append k [] ys = sym (zero-add (count k ys))
count-append k (x ∷ xs) ys = (let rest = count-append k xs ys in omega (arith, rest))

pub count-stale : (k n : ℕ) (ns : List ℕ) → count k (with_stale ns n) ≡ one k n + count k ns
count-stale k n [] = refl
count-stale k n (m ∷ ms) = by (nat_le n m) (count-stale k n ms)
  where
    by : (b : Bool) → count k (with_stale ms n) ≡ one k n + count k ms → count k (cond b (n ∷ m ∷ ms) (m ∷ with_stale ms n)) ≡ one k n + (one k m + count k ms)
    by true rest = refl
    by false rest = omega (arith, rest)

abbrev one_old : ℕ → Option ℕ → ℕ
one_old k None = 0
one_old k (Some n) = one k n

count-old : (k : ℕ) (ns : List ℕ) (old : Option ℕ) → count k (with_old ns old) ≡ one_old k old + count k ns
count-old k ns None = sym (zero-add (count k ns))
count-old k ns (Some n) = count-stale k n ns

count-entry : (k n : ℕ) (es : List PriorEntry) (name : List ℕ) → count k (prior_numbers (with_entry es name n)) + one_old k (number_named es name) ≡ one k n + count k (prior_numbers es)
count-entry k n [] name = omega arith
count-entry k n (e ∷ es) name = by (is_same name e.name) (count-entry k n es name)
  where
    by : (b : Bool) → count k (prior_numbers (with_entry es name n)) + one_old k (number_named es name) ≡ one k n + count k (prior_numbers es)
        → count k (prior_numbers (cond b (record { name = e.name; number = n } ∷ es) (e ∷ with_entry es name n))) + one_old k (cond b (Some e.number) (number_named es name))
        ≡ one k n + (one k e.number + count k (prior_numbers es))
    by true rest = omega arith
    by false rest = omega (arith, rest)

-- the numbers of all files where a prior gets the file of a new number, and its old one is stale
pub numbered-set : (next n : ℕ) (es : List SegEntry) (stale : List ℕ) (ps : List PriorEntry) (name : List ℕ) → AreNumbered next (n ∷ all_numbers es stale ps)
    → AreNumbered next (all_numbers es (with_old stale (number_named ps name)) (with_entry ps name n))
numbered-set next n es stale ps name numbered = counted-numbered next (n ∷ all_numbers es stale ps) _ (λ k. same k) numbered
  where
    same : (k : ℕ) → count k (all_numbers es (with_old stale (number_named ps name)) (with_entry ps name n)) ≡ count k (n ∷ all_numbers es stale ps)
    same k =
        let old = number_named ps name in
        let a = count-append k (numbers_of es) (with_old stale old ++ prior_numbers (with_entry ps name n)) in
        let b = count-append k (with_old stale old) (prior_numbers (with_entry ps name n)) in
        let c = count-append k (numbers_of es) (stale ++ prior_numbers ps) in
        let d = count-append k stale (prior_numbers ps) in
        omega (arith, a, b, c, d, count-old k stale old, count-entry k n ps name)

-- the old number isn't stale yet
named-counted : (k : ℕ) (es : List PriorEntry) (name : List ℕ) → one_old k (number_named es name) ≤ count k (prior_numbers es)
named-counted k [] name = omega arith
named-counted k (e ∷ es) name = by (is_same name e.name) (named-counted k es name)
  where
    by : (b : Bool) → one_old k (number_named es name) ≤ count k (prior_numbers es) → one_old k (cond b (Some e.number) (number_named es name)) ≤ one k e.number + count k (prior_numbers es)
    by true rest = omega arith
    by false rest = omega (arith, rest)

pub old-not_stale : (next old : ℕ) (es : List SegEntry) (stale : List ℕ) (ps : List PriorEntry) (name : List ℕ) → AreNumbered next (all_numbers es stale ps) → number_named ps name ≡ Some old → IsNoneOf old stale
old-not_stale next old es stale ps name numbered is =
    let once = numbered-once next (all_numbers es stale ps) numbered old in
    let a = count-append old (numbers_of es) (stale ++ prior_numbers ps) in
    let b = count-append old stale (prior_numbers ps) in
    let there : 1 ≤ count old (prior_numbers ps) = (let c = named-counted old ps name in omega (arith, c, ap (one_old old) is, own old)) in
    count-none old stale (omega (arith, once.0, a, b, there))

-- each prior has a file of another number
pub other-priors : (next n : ℕ) (es : List SegEntry) (stale : List ℕ) (ps : List PriorEntry) → AreNumbered next (n ∷ all_numbers es stale ps) → IsNoneOf n (prior_numbers ps)
other-priors next n es stale ps numbered =
    let none = none-count n (all_numbers es stale ps) numbered.1.1.0 in
    let a = count-append n (numbers_of es) (stale ++ prior_numbers ps) in
    let b = count-append n stale (prior_numbers ps) in
    count-none n (prior_numbers ps) (omega (arith, none, a, b))
