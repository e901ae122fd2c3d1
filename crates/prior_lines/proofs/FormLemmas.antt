-- A row by its form.
use Rattle.std.proofs.Common.{ℕ, ◌≡◌, ◌≤◌, ◌<◌, Bool, true, false, ◌&&◌, List, [], ◌∷◌, ◌++◌, Option, Some, None, refl, ap, ◌∙◌, arith}
use Rattle.std.specs.Prelude.{codes, nat_lt, nat_le}
use Rattle.std.specs.List.{list_all}
use Rattle.std.specs.Str.{bytes_eq}
use Rattle.ri_base.specs.Ascii.{is_digit}
use Rattle.ri_base.specs.Ratio.{Ratio}
use Rattle.ri_base.specs.Text.{is_docno, is_docno_byte}
use Rattle.line_parts.proofs.Splits.{all_other, is_other, split_front, split_is}
use Rattle.line_parts.specs.Parts.{split}
use Rattle.prior_lines.specs.Numbers.{is_number, number}
use Rattle.prior_lines.specs.Row.{fraction, ratio, row, row_key}
use Rattle.prior_lines.specs.declared.row.RowKey.{RowKey}
use Rattle.prior_lines.specs.Form.{IsRow}

number_other : (text : List ℕ) (n : ℕ) → number text ≡ Some n → list_all (is_other 47) text ≡ true
number_other text n is = by (is_number text) refl
  where
    by : (v : Bool) → is_number text ≡ v → list_all (is_other 47) text ≡ true
    by true e = let all : list_all is_digit text ≡ true = grind (arith, e) in all_other is_digit 47 text refl all
    by false e = absurd (let none : None ≡ Some n = rw e at is in cc)

star_other : (text : List ℕ) → bytes_eq text (codes "*") ≡ true → list_all (is_other 32) text ≡ true
star_other [] e = refl
star_other (b ∷ []) e = let here : is_other 32 b ≡ true = grind (arith, e) in rw here refl
star_other (b ∷ c ∷ text) e = grind (arith, e)

name_other : (text : List ℕ) (key : RowKey) → row_key text ≡ Some key → list_all (is_other 32) text ≡ true
name_other text key is = by (bytes_eq text (codes "*")) (is_docno text) refl refl
  where
    by : (v w : Bool) → bytes_eq text (codes "*") ≡ v → is_docno text ≡ w → list_all (is_other 32) text ≡ true
    by true w star docno = star_other text star
    by false true star docno = let all : list_all is_docno_byte text ≡ true = grind (arith, docno) in all_other is_docno_byte 32 text refl all
    by false false star docno = absurd (let none : None ≡ Some key = rw (star, docno) at is in cc)

fraction_every : (above below : List ℕ) (f : Ratio) → number above ≡ Some f.p → number below ≡ Some f.q → 0 < f.p → f.p ≤ f.q → fraction (above ++ 47 ∷ below) ≡ Some f
unfolding fraction
fraction_every above below f p q some most =
    let parts = split_front 47 above below (number_other above f.p p) in
    let test : (nat_lt 0 f.p && nat_le f.p f.q) ≡ true = grind (arith, some, most) in
    rw (parts, p, q, test) refl

pub row_every : (text : List ℕ) (key : RowKey) (f : Ratio) → IsRow text key f → row text ≡ Some (key, f)
unfolding row
row_every text key f is =
    let parts = split_front 32 is.name (is.above ++ 47 ∷ is.below) (name_other is.name key is.named) in
    let number = fraction_every is.above is.below f is.numerator is.denominator is.positive is.at_most_one in
    rw (is.whole, parts, number, is.named) refl

-- THE OTHER WAY

abbrev key_or : RowKey → Option (RowKey × Ratio) → RowKey
key_or k None = k
key_or k (Some x) = x.0

abbrev number_or : Ratio → Option (RowKey × Ratio) → Ratio
number_or f None = f
number_or f (Some x) = x.1

abbrev ratio_or : Ratio → Option Ratio → Ratio
ratio_or f None = f
ratio_or f (Some g) = g

record IsFraction (text : List ℕ) (f : Ratio) : Type 0 where
  above : List ℕ
  below : List ℕ
  whole : text ≡ above ++ 47 ∷ below
  numerator : number above ≡ Some f.p
  denominator : number below ≡ Some f.q
  positive : 0 < f.p
  at_most_one : f.p ≤ f.q

ratio_only : (p q : ℕ) (f : Ratio) → ratio p q ≡ Some f → (p ≡ f.p) × (q ≡ f.q) × (0 < p) × (p ≤ q)
ratio_only p q f is = by (nat_lt 0 p && nat_le p q) refl
  where
    by : (v : Bool) → (nat_lt 0 p && nat_le p q) ≡ v → (p ≡ f.p) × (q ≡ f.q) × (0 < p) × (p ≤ q)
    by true e =
        let found : Some (record { p = p; q = q }) ≡ Some f = rw e at is in
        let same : _ ≡ f = ap (ratio_or f) found in
        (ap (λ (r : Ratio). r.p) same, ap (λ (r : Ratio). r.q) same, grind (arith, e), grind (arith, e))
    by false e = absurd (let none : None ≡ Some f = rw e at is in cc)

fraction_only : (text : List ℕ) (f : Ratio) → fraction text ≡ Some f → IsFraction text f
unfolding fraction
fraction_only text f is = by (split 47 text) refl
  where
    numbers : (x y : List ℕ) (p q : Option ℕ) → split 47 text ≡ Some (x, y) → number x ≡ p → number y ≡ q → IsFraction text f
    numbers x y None q parts ep eq = absurd (let none : None ≡ Some f = rw (parts, ep) at is in cc)
    numbers x y (Some p) None parts ep eq = absurd (let none : None ≡ Some f = rw (parts, ep, eq) at is in cc)
    numbers x y (Some p) (Some q) parts ep eq =
        let found : ratio p q ≡ Some f = rw (parts, ep, eq) at is in
        let only = ratio_only p q f found in
        record { above = x; below = y; whole = split_is 47 text (x, y) parts; numerator = ep ∙ ap Some only.0; denominator = eq ∙ ap Some only.1; positive = omega (arith, only.0, only.2); at_most_one = omega (arith, only.0, only.1, only.3) }

    by : (s : Option (List ℕ × List ℕ)) → split 47 text ≡ s → IsFraction text f
    by None parts = absurd (let none : None ≡ Some f = rw parts at is in cc)
    by (Some (x, y)) parts = numbers x y (number x) (number y) parts refl refl

pub row_only : (text : List ℕ) (key : RowKey) (f : Ratio) → row text ≡ Some (key, f) → IsRow text key f
unfolding row
row_only text key f is = by (split 32 text) refl
  where
    made : (x y : List ℕ) → split 32 text ≡ Some (x, y) → row_key x ≡ Some key → IsFraction y f → IsRow text key f
    made x y parts named frac = record {
      name = x;
      above = frac.above;
      below = frac.below;
      whole = split_is 32 text (x, y) parts ∙ ap (λ ys. x ++ 32 ∷ ys) frac.whole;
      named = named;
      numerator = frac.numerator;
      denominator = frac.denominator;
      positive = frac.positive;
      at_most_one = frac.at_most_one;
    }

    further : (x y : List ℕ) (g : Option Ratio) (k : Option RowKey) → split 32 text ≡ Some (x, y) → fraction y ≡ g → row_key x ≡ k → IsRow text key f
    further x y None k parts eg ek = absurd (let none : None ≡ Some (key, f) = rw (parts, eg) at is in cc)
    further x y (Some g) None parts eg ek = absurd (let none : None ≡ Some (key, f) = rw (parts, eg, ek) at is in cc)
    further x y (Some g) (Some k) parts eg ek =
        let found : Some (k, g) ≡ Some (key, f) = rw (parts, eg, ek) at is in
        let keys : k ≡ key = ap (key_or key) found in
        let numbers : g ≡ f = ap (number_or f) found in
        made x y parts (ek ∙ ap Some keys) (fraction_only y f (eg ∙ ap Some numbers))

    by : (s : Option (List ℕ × List ℕ)) → split 32 text ≡ s → IsRow text key f
    by None parts = absurd (let none : None ≡ Some (key, f) = rw parts at is in cc)
    by (Some (x, y)) parts = further x y (fraction y) (row_key x) parts refl refl
