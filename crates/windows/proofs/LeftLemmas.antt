-- The first of the windows that are left, and those behind it.
use Rattle.std.proofs.Common.{◌≡◌, ℕ, suc, zero, ◌+◌, ◌*◌, ◌-◌, ◌<◌, ◌≤◌, ⊎_elim, Bool, true, false, not, nat_le, nat_lt, List, [], ◌∷◌, filter, map, length, drop, get_or, refl, ap, arith}
use Rattle.std.specs.List.{prefix_len, range_with_len}
use Rattle.std.specs.Str.{bytes_eq}
use Rattle.std.proofs.Math.Nat.{le-mul_of_pos_right, mul-le-mul_right}
use Rattle.std.proofs.lemmas.Bool.{and_parts, cases_Bool, leb-true, lt-ltb, le-ltb}
use Rattle.ri_base.specs.Documents.{Field}
use Rattle.ri_base.specs.Expression.{is_width}
use Rattle.ri_base.specs.Query.{is_range}
use Rattle.ri_base.specs.declared.query.Range.TheVariants as range
use Rattle.ri_base.specs.declared.limits.TheConstants.{MAX_DOC_TOKENS, MAX_WIDTH}
use Rattle.windows.specs.Left.{AreNumbers, fields_named, passages_from}
use Rattle.windows.specs.Windows.{passage, window}

-- the numbers of a range are those that passages need
pub AreNumbers-start : (tokens width every : ℕ) → is_range (range.Passages width every) ≡ true → tokens ≤ MAX_DOC_TOKENS → AreNumbers 0 tokens width every
AreNumbers-start tokens width every sound few =
    let both = and_parts (is_width width) (is_width every) sound in
    let of_width = and_parts (nat_le 1 width) (nat_le width MAX_WIDTH) both.0 in
    let of_every = and_parts (nat_le 1 every) (nat_le every MAX_WIDTH) both.1 in
    record {
      inside = omega arith;
      few = few;
      some = leb-true _ _ of_width.0;
      most = leb-true _ _ of_width.1;
      apart = leb-true _ _ of_every.0;
      widest = leb-true _ _ of_every.1;
    }

module _ (tokens width every : ℕ) where
  abbrev begins_within : ℕ → Bool
  begins_within i = nat_lt (i * every) tokens

  none_begins : (a n : ℕ) → tokens ≤ a * every → filter begins_within (range_with_len a n) ≡ []
  none_begins a zero past = refl
  none_begins a (suc n) past =
      let later : a * every ≤ (a + 1) * every = mul-le-mul_right every (omega arith) in
      rw (le-ltb (a * every) tokens past) (none_begins (a + 1) n (omega arith))

  -- no passage begins behind the document's end
  pub passages_from-none : (number : ℕ) → tokens ≤ number * every → passages_from number tokens width every ≡ []
  passages_from-none number past = ap (map (λ i. passage tokens width (i * every))) (none_begins number (tokens - number) past)

  -- a passage that begins before it, and those behind
  pub passages_from-more : (number : ℕ) → 1 ≤ every → number * every < tokens → passages_from number tokens width every ≡ passage tokens width (number * every) ∷ passages_from (number + 1) tokens width every
  passages_from-more number some within =
      let far : number ≤ number * every = le-mul_of_pos_right number some in
      let count : tokens - number ≡ suc (tokens - (number + 1)) = omega arith in
      rw (count, lt-ltb (number * every) tokens within) refl

  pub AreNumbers-more : (number : ℕ) → number * every < tokens → AreNumbers number tokens width every → AreNumbers (number + 1) tokens width every
  AreNumbers-more number within n =
      let far : number ≤ number * every = le-mul_of_pos_right number n.apart in
      record { inside = omega arith; few = n.few; some = n.some; most = n.most; apart = n.apart; widest = n.widest }

-- the first field of a name, and those behind it
module _ (name : List ℕ) where
  abbrev pub others_before : List Field → ℕ
  others_before fields = prefix_len (λ f. not (bytes_eq f.name name)) fields

  pub fields_named-none : (fields : List Field) → length fields ≤ others_before fields → fields_named name fields ≡ []
  fields_named-none [] all = refl
  fields_named-none (g ∷ fields) all = ⊎_elim
      (λ (named : bytes_eq g.name name ≡ true). absurd (omega (arith, rw named at all)))
      (λ (other : bytes_eq g.name name ≡ false). rw other (fields_named-none fields (omega (arith, rw other at all))))
      (cases_Bool (bytes_eq g.name name))

  pub fields_named-more : (fields : List Field) (k : ℕ) (f : Field) → k ≡ others_before fields → k < length fields → fields_named name fields ≡ window (get_or fields k f).begin (get_or fields k f).end ∷ fields_named name (drop (suc k) fields)
  fields_named-more [] k f is some = absurd (omega (arith, some))
  fields_named-more (g ∷ fields) zero f is some = ⊎_elim
      (λ (named : bytes_eq g.name name ≡ true). rw named refl)
      (λ (other : bytes_eq g.name name ≡ false). absurd (omega (arith, rw other at is)))
      (cases_Bool (bytes_eq g.name name))
  fields_named-more (g ∷ fields) (suc k) f is some = ⊎_elim
      (λ (named : bytes_eq g.name name ≡ true). absurd (omega (arith, rw named at is)))
      (λ (other : bytes_eq g.name name ≡ false). rw other (fields_named-more fields k f (omega (arith, rw other at is)) (omega (arith, some))))
      (cases_Bool (bytes_eq g.name name))
