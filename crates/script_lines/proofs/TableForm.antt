-- The rows of the table of lines.
use Rattle.std.proofs.Common.{ℕ, ◌≡◌, ◌<◌, Bool, true, false, List, [], ◌∷◌, ◌++◌, Option, length, map, codes, bytes_eq, refl, sym, ap, ◌∙◌, arith, subst, length-append}
use Rattle.std.specs.Prelude.{Some, None, nat_le, if◌then◌else◌, ◌==◌, ◌&&◌, not}
use Rattle.std.specs.List.{list_all}
use Rattle.std.specs.Str.{is_utf8}
use Rattle.std.proofs.lemmas.Slice.Eq.{bytes_eq-Decides}
use Rattle.ri_base.specs.Ascii.{is_digit, lower}
use Rattle.ri_base.specs.Text.{is_docno, is_name, is_name_byte, starts_with_letter}
use Rattle.line_parts.proofs.Splits.{all_other, is_other, split_front, split_is, unsplit}
use Rattle.line_parts.specs.Digits.{has_number_form, number_to, starts_with_zero, value_from}
use Rattle.line_parts.specs.Parts.{split}
use Rattle.session_events.specs.declared.event.TheConstants.{MAX_ADD_BYTES, MAX_RESULTS, MAX_TURN_DOCS}
use Rattle.script_lines.specs.Parts.{docno_of, name_of, text_of}
use Rattle.script_lines.specs.Asked.{asked, asked_bare, asked_explain, asked_open, asked_parts, asked_step, asked_with, with_part}
use Rattle.script_lines.specs.declared.asked.Asked.{Asked}
use Rattle.script_lines.specs.declared.asked.Asked.TheVariants.{Unknown}
use Rattle.script_lines.specs.Rows.{IsNameOf, IsNumber, IsRow}
use Rattle.script_lines.specs.Rows.IsRow.{add, delete, flush, merge, turn, open_query, step, show, explain, scan, close, end}

-- no byte is a space
abbrev NoBlank : List ℕ → Type 0
NoBlank word = list_all (is_other 32) word ≡ true

-- WORDS

same_word : (word literal : List ℕ) → bytes_eq word literal ≡ true → word ≡ literal
same_word word literal e = (bytes_eq-Decides word literal).0 e

both : (a b : Bool) → (a && b) ≡ true → (a ≡ true) × (b ≡ true)
both true true e = (refl, refl)
both true false e = cc
both false b e = cc

joined : (a b : Bool) → a ≡ true → b ≡ true → (a && b) ≡ true
joined a b p q = rw (p, q) refl

number_row : (most : ℕ) (digits : List ℕ) (n : ℕ) → number_to most digits ≡ Some n → IsNumber most digits n
number_row most digits n e = by (has_number_form digits) (nat_le (value_from 0 digits) most) refl refl e
  where
    by : (v w : Bool) → has_number_form digits ≡ v → nat_le (value_from 0 digits) most ≡ w → (if v && w then Some (value_from 0 digits) else None) ≡ Some n → IsNumber most digits n
    by true true form le e =
        let parts = both (nat_le 1 (length digits) && list_all is_digit digits) (not (starts_with_zero digits)) form in
        let front = both (nat_le 1 (length digits)) (list_all is_digit digits) parts.0 in
        let value : value_from 0 digits ≡ n = cc in
        record {
          some = grind (arith, front.0);
          all_digits = front.1;
          no_zero = λ rest z. (let zero_is : starts_with_zero digits ≡ true = rw z refl in let never = rw zero_is at parts.1 in cc);
          value = value;
          within = grind (arith, le, value);
        }
    by true false form le e = cc
    by false w form le e = cc

number_every : (most : ℕ) (digits : List ℕ) (n : ℕ) → IsNumber most digits n → number_to most digits ≡ Some n
number_every most digits n x =
    let one : nat_le 1 (length digits) ≡ true = (let s = x.some in grind (arith, s)) in
    let le : nat_le (value_from 0 digits) most ≡ true = (let v = x.value in let w = x.within in grind (arith, v, w)) in
    let nonzero : not (starts_with_zero digits) ≡ true = no_zero_is digits x.no_zero in
    rw (one, x.all_digits, nonzero, le) (ap (λ k. Some k) x.value)
  where
    no_zero_is : (xs : List ℕ) → ((rest : List ℕ) → xs ≡ 48 ∷ rest → ⊥) → not (starts_with_zero xs) ≡ true
    no_zero_is [] never = refl
    no_zero_is (c ∷ xs) never = by (c == 48) refl
      where
        by : (v : Bool) → (c == 48) ≡ v → not (c == 48) ≡ true
        by true f = let is : c ≡ 48 = grind (arith, f) in absurd (never xs (ap (λ k. k ∷ xs) is))
        by false f = rw f refl

name_row : (word name : List ℕ) → name_of word ≡ Some name → IsNameOf word name
name_row word name e = by (is_name (map lower word)) refl e
  where
    by : (v : Bool) → is_name (map lower word) ≡ v → (if v then Some (map lower word) else None) ≡ Some name → IsNameOf word name
    by true f e = let same : name ≡ map lower word = cc in record { lowered = same; form = rw same f }
    by false f e = cc

name_every : (word name : List ℕ) → IsNameOf word name → name_of word ≡ Some name
name_every word name x =
    let f : is_name (map lower word) ≡ true = rw (← x.lowered) x.form in
    rw f (ap (λ n. Some n) (sym x.lowered))

text_row : (text found : List ℕ) → text_of text ≡ Some found → (text ≡ found) × (is_utf8 found ≡ true)
text_row text found e = by (is_utf8 text) refl e
  where
    by : (v : Bool) → is_utf8 text ≡ v → (if v then Some text else None) ≡ Some found → (text ≡ found) × (is_utf8 found ≡ true)
    by true f e = let same : text ≡ found = cc in (same, rw (← same) f)
    by false f e = cc

docno_row : (text found : List ℕ) → docno_of text ≡ Some found → (text ≡ found) × (is_docno found ≡ true)
docno_row text found e = by (is_docno text) refl e
  where
    by : (v : Bool) → is_docno text ≡ v → (if v then Some text else None) ≡ Some found → (text ≡ found) × (is_docno found ≡ true)
    by true f e = let same : text ≡ found = cc in (same, rw (← same) f)
    by false f e = cc

-- WHAT IS ASKED IS A ROW

-- a row, unless nothing is known of the line
abbrev Row : List ℕ → Asked → Type 0
Row text a = (a ≡ Unknown → ⊥) → IsRow text a

part_row : {A : Type 0} (text : List ℕ) (o : Option A) (f : A → Asked) → ((x : A) → o ≡ Some x → Row text (f x)) → Row text (with_part o f)
part_row text None f each h = absurd (h refl)
part_row text (Some x) f each h = each x refl h

if_row : (text : List ℕ) (b : Bool) (x y : Asked) → (b ≡ true → Row text x) → Row text y → Row text (if b then x else y)
if_row text true x y p q = p refl
if_row text false x y p q = q

module _ (text word rest : List ℕ) (is : text ≡ word ++ 32 ∷ rest) where
  written : (literal : List ℕ) → bytes_eq word literal ≡ true → text ≡ literal ++ 32 ∷ rest
  written literal e = is ∙ ap (λ w. w ++ 32 ∷ rest) (same_word word literal e)

  open_row : bytes_eq word (codes "open") ≡ true → Row text (asked_open rest)
  unfolding asked_open
  open_row e = part_row text (split 32 rest) _ (λ x a. part_row text (split 32 x.1) _ (λ y b. part_row text (number_to MAX_RESULTS y.0) _ (λ k n. part_row text (text_of y.1) _ (λ query u. part_row text (name_of x.0) _ (λ name m _.
      let q = text_row y.1 query u in
      open_query text x.0 name y.0 query k (name_row x.0 name m) (number_row MAX_RESULTS y.0 k n) q.1
      (written (codes "open") e ∙ ap (λ r. codes "open" ++ 32 ∷ r) (split_is 32 rest x a ∙ ap (λ r. x.0 ++ 32 ∷ r) (split_is 32 x.1 y b ∙ ap (λ r. y.0 ++ 32 ∷ r) q.0))))))))

  step_row : bytes_eq word (codes "step") ≡ true → Row text (asked_step rest)
  unfolding asked_step
  step_row e = part_row text (split 32 rest) _ (λ x a. part_row text (number_to MAX_TURN_DOCS x.1) _ (λ n b. part_row text (name_of x.0) _ (λ name m _.
      step text x.0 name x.1 n (name_row x.0 name m) (number_row MAX_TURN_DOCS x.1 n b) (written (codes "step") e ∙ ap (λ r. codes "step" ++ 32 ∷ r) (split_is 32 rest x a)))))

  explain_row : bytes_eq word (codes "explain") ≡ true → Row text (asked_explain rest)
  unfolding asked_explain
  explain_row e = part_row text (split 32 rest) _ (λ x a. part_row text (number_to MAX_RESULTS x.1) _ (λ n b. part_row text (name_of x.0) _ (λ name m _.
      explain text x.0 name x.1 n (name_row x.0 name m) (number_row MAX_RESULTS x.1 n b) (written (codes "explain") e ∙ ap (λ r. codes "explain" ++ 32 ∷ r) (split_is 32 rest x a)))))

  with_row : Row text (asked_with word rest)
  unfolding asked_with
  with_row =
      if_row text (bytes_eq word (codes "add")) _ _ (λ e. part_row text (number_to MAX_ADD_BYTES rest) _ (λ n a _. add text rest n (number_row MAX_ADD_BYTES rest n a) (written (codes "add") e))) (
      if_row text (bytes_eq word (codes "delete")) _ _ (λ e. part_row text (docno_of rest) _ (λ d a _. (let q = docno_row rest d a in delete text d q.1 (written (codes "delete") e ∙ ap (λ r. codes "delete" ++ 32 ∷ r) q.0)))) (
      if_row text (bytes_eq word (codes "turn")) _ _ (λ e. part_row text (number_to MAX_TURN_DOCS rest) _ (λ n a _. turn text rest n (number_row MAX_TURN_DOCS rest n a) (written (codes "turn") e))) (
      if_row text (bytes_eq word (codes "open")) _ _ open_row (
      if_row text (bytes_eq word (codes "step")) _ _ step_row (
      if_row text (bytes_eq word (codes "show")) _ _ (λ e. part_row text (name_of rest) _ (λ name m _. show text rest name (name_row rest name m) (written (codes "show") e))) (
      if_row text (bytes_eq word (codes "explain")) _ _ explain_row (
      if_row text (bytes_eq word (codes "scan")) _ _ (λ e. part_row text (text_of rest) _ (λ x a _. (let q = text_row rest x a in scan text x q.1 (written (codes "scan") e ∙ ap (λ r. codes "scan" ++ 32 ∷ r) q.0)))) (
      if_row text (bytes_eq word (codes "close")) _ _ (λ e. part_row text (name_of rest) _ (λ name m _. close text rest name (name_row rest name m) (written (codes "close") e))) (λ h. absurd (h refl))))))))))

bare_row : (word : List ℕ) → Row word (asked_bare word)
unfolding asked_bare
bare_row word =
    if_row word (bytes_eq word (codes "flush")) _ _ (λ e _. flush word (same_word word (codes "flush") e)) (
    if_row word (bytes_eq word (codes "merge")) _ _ (λ e _. merge word (same_word word (codes "merge") e)) (
    if_row word (bytes_eq word (codes "end")) _ _ (λ e _. end word (same_word word (codes "end") e)) (λ h. absurd (h refl))))

parts_row : (text : List ℕ) (o : Option (List ℕ × List ℕ)) → split 32 text ≡ o → Row text (asked_parts text o)
parts_row text None e = bare_row text
parts_row text (Some x) e = with_row text x.0 x.1 (split_is 32 text x e)

pub table_only : (text : List ℕ) (a : Asked) → 0 < length text → asked text ≡ a → (a ≡ Unknown → ⊥) → IsRow text a
unfolding asked
table_only [] a some e h = absurd (omega arith)
table_only (b ∷ text) a some e h =
    let P : Asked → Type 0 = λ x. Row (b ∷ text) x in
    let row : Row (b ∷ text) a = subst P e (parts_row (b ∷ text) (split 32 (b ∷ text)) refl) in
    row h

-- A ROW IS ASKED

digits_clear : (most n : ℕ) (digits : List ℕ) → IsNumber most digits n → NoBlank digits
digits_clear most n digits x = all_other is_digit 32 digits refl x.all_digits

mapped : (p : ℕ → Bool) (xs : List ℕ) → list_all p (map lower xs) ≡ list_all (λ b. p (lower b)) xs
mapped p [] = refl
mapped p (x ∷ xs) = ap (λ v. p (lower x) && v) (mapped p xs)

name_clear : (word name : List ℕ) → IsNameOf word name → NoBlank word
name_clear word name x =
    let f : is_name (map lower word) ≡ true = rw (← x.lowered) x.form in
    let parts = both (starts_with_letter (map lower word) && nat_le (length (map lower word)) 32) (list_all is_name_byte (map lower word)) f in
    all_other (λ b. is_name_byte (lower b)) 32 word refl (sym (mapped is_name_byte word) ∙ parts.1)

asked_with_is : (text word rest : List ℕ) → NoBlank word → text ≡ word ++ 32 ∷ rest → asked text ≡ asked_with word rest
unfolding asked
asked_with_is [] word rest none e = absurd (omega (arith, ap length e, length-append word (32 ∷ rest)))
asked_with_is (b ∷ text) word rest none e =
    let parts : split 32 (b ∷ text) ≡ Some (word, rest) = ap (split 32) e ∙ split_front 32 word rest none in
    ap (asked_parts (b ∷ text)) parts

asked_bare_is : (text : List ℕ) → 0 < length text → NoBlank text → asked text ≡ asked_bare text
unfolding asked
asked_bare_is [] some none = absurd (omega arith)
asked_bare_is (b ∷ text) some none = ap (asked_parts (b ∷ text)) (unsplit 32 (b ∷ text) none)

pub table_every : (text : List ℕ) (a : Asked) → IsRow text a → asked text ≡ a
unfolding asked_with asked_bare asked_open asked_step asked_explain
table_every text a (add _ digits n x e) = asked_with_is text (codes "add") digits refl e ∙ rw (number_every MAX_ADD_BYTES digits n x) refl
table_every text a (delete _ docno x e) = asked_with_is text (codes "delete") docno refl e ∙ rw x refl
table_every text a (flush _ e) = ap asked e ∙ asked_bare_is (codes "flush") (omega arith) refl
table_every text a (merge _ e) = ap asked e ∙ asked_bare_is (codes "merge") (omega arith) refl
table_every text a (turn _ digits n x e) = asked_with_is text (codes "turn") digits refl e ∙ rw (number_every MAX_TURN_DOCS digits n x) refl
table_every text a (open_query _ word name digits query k x y u e) =
    asked_with_is text (codes "open") (word ++ 32 ∷ (digits ++ 32 ∷ query)) refl e
    ∙ rw (split_front 32 word (digits ++ 32 ∷ query) (name_clear word name x)) (rw (split_front 32 digits query (digits_clear MAX_RESULTS k digits y)) (rw (number_every MAX_RESULTS digits k y, u, name_every word name x) refl))
table_every text a (step _ word name digits n x y e) =
    asked_with_is text (codes "step") (word ++ 32 ∷ digits) refl e ∙ rw (split_front 32 word digits (name_clear word name x)) (rw (number_every MAX_TURN_DOCS digits n y, name_every word name x) refl)
table_every text a (show _ word name x e) = asked_with_is text (codes "show") word refl e ∙ rw (name_every word name x) refl
table_every text a (explain _ word name digits rank x y e) =
    asked_with_is text (codes "explain") (word ++ 32 ∷ digits) refl e ∙ rw (split_front 32 word digits (name_clear word name x)) (rw (number_every MAX_RESULTS digits rank y, name_every word name x) refl)
table_every text a (scan _ expr u e) = asked_with_is text (codes "scan") expr refl e ∙ rw u refl
table_every text a (close _ word name x e) = asked_with_is text (codes "close") word refl e ∙ rw (name_every word name x) refl
table_every text a (end _ e) = ap asked e ∙ asked_bare_is (codes "end") (omega arith) refl
