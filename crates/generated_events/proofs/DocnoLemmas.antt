-- A `g` and a number are a docno.
use Rattle.std.proofs.Common.{◌≡◌, ◌<◌, ◌≤◌, ◌+◌, ◌^◌, ◌∙◌, ◌++◌, ℕ, true, List, [], ◌∷◌, length, map, refl, arith}
use Rattle.std.specs.Prelude.{codes, ◌%◌, nat_lt}
use Rattle.std.specs.Fmt.{decimal}
use Rattle.std.specs.List.{list_all, range_with_len}
use Rattle.std.specs.Str.{IsAscii, is_utf8}
use Rattle.std.proofs.lemmas.Bool.{and_parts, le-leb, ltb-true, ne_eqb}
use Rattle.std.proofs.lemmas.Fmt.{decimal_by_steps, length-decimal-le}
use Rattle.std.proofs.lemmas.List.Elements.{All-nil}
use Rattle.std.proofs.lemmas.List.Folds.{list_all-append}
use Rattle.std.proofs.lemmas.List.FromFn.{length-map-range_with_len, map-range_with_len_more}
use Rattle.std.proofs.lemmas.Str.{encodes-IsAscii, is_utf8-from_IsUtf8}
use Rattle.std.proofs.lemmas.Str.Ascii.{IsAscii-cons, IsAscii-nil}
use Rattle.ri_base.specs.Documents.{IsDocument}
use Rattle.ri_base.specs.Text.{is_docno, is_docno_byte, is_term}
use Rattle.generated_events.specs.Documents.{docno_of, word, words_of}

digit-byte : (k : ℕ) → k < 10 → is_docno_byte (48 + k) ≡ true
digit-byte k h =
    let low = le-leb 33 (48 + k) (omega (arith, h)) in
    let high = le-leb (48 + k) 126 (omega (arith, h)) in
    let other = ne_eqb (48 + k) 60 (λ e. omega (arith, h, e)) in
    rw (low, high, other) refl

digit-alone : (k : ℕ) → k < 10 → list_all is_docno_byte ((48 + k) ∷ []) ≡ true
digit-alone k h =
    let here = digit-byte k h in
    rw here refl

digit-more : (n : ℕ) (ds : List ℕ) → 10 ≤ n → list_all is_docno_byte ds ≡ true → list_all is_docno_byte (ds ++ (48 + n % 10) ∷ []) ≡ true
digit-more n ds h all =
    let last = digit-alone (n % 10) (omega arith) in
    list_all-append is_docno_byte ds ((48 + n % 10) ∷ []) ∙ (rw (all, last) refl)

digits-bytes : (n : ℕ) → n < 2 ^ 64 → list_all is_docno_byte (decimal n) ≡ true
digits-bytes = decimal_by_steps (λ n ds. list_all is_docno_byte ds ≡ true) digit-alone digit-more

pub docno_is : (n : ℕ) → n < 2 ^ 32 → is_docno (docno_of n) ≡ true
docno_is n h =
    let short = length-decimal-le 10 n (omega arith) (omega (arith, h)) (omega (arith, h)) in
    let some = le-leb 1 (length (docno_of n)) (omega arith) in
    let few = le-leb (length (docno_of n)) 255 (omega (arith, short)) in
    let bytes = digits-bytes n (omega (arith, h)) in
    rw (some, few, bytes) refl

pub word_is : (n : ℕ) → is_term (word n) ≡ true
word_is n = refl

-- ---- a document, and a query

pub words_more : (i j : ℕ) → map (λ k. word (i + k)) (range_with_len 0 (j + 1)) ≡ map (λ k. word (i + k)) (range_with_len 0 j) ++ word (i + j) ∷ []
words_more i j = map-range_with_len_more (λ k. word (i + k)) 0 j j (omega arith)

pub document_is : (i : ℕ) → IsDocument (words_of i) []
document_is i =
    let long = length-map-range_with_len (λ j. word (i + j)) 0 (2 + i % 3) in
    record { short = omega (arith, long); sound = record { few = omega arith; some = All-nil _; within = All-nil _; in_order = λ i j d up small. absurd (omega (arith, small)) } }

ascii : (bs : List ℕ) → list_all (λ b. nat_lt b 128) bs ≡ true → IsAscii bs
ascii [] e = IsAscii-nil
ascii (b ∷ bs) e =
    let parts = and_parts (nat_lt b 128) (list_all (λ b. nat_lt b 128) bs) e in
    IsAscii-cons b bs (ltb-true b 128 parts.0) (ascii bs parts.1)

pub question_is : is_utf8 (codes "w0 #1(w1 w2)") ≡ true
question_is =
    let text = codes "w0 #1(w1 w2)" in
    is_utf8-from_IsUtf8 text (text, (refl, encodes-IsAscii text (ascii text refl)))
