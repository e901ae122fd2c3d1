-- What is read of a part has the form of that part.
use Rattle.std.proofs.Common.{ℕ, suc, ◌≡◌, ◌<◌, ◌+◌, Bool, true, false, not, ◌&&◌, ◌||◌, List, [], ◌∷◌, ◌++◌, length, map, take, drop, Option, None, Some, refl, sym, ap, ◌∙◌, subst, arith, append_assoc, eqb-true}
use Rattle.std.specs.Prelude.{◌==◌, nat_lt, if◌then◌else◌}
use Rattle.std.specs.List.{list_all, prefix_len, take_while}
use Rattle.std.proofs.lemmas.List.{take-append-drop}
use Rattle.ri_base.specs.Ascii.{is_digit, is_letter_or_digit, lower}
use Rattle.ri_base.specs.Text.{is_term, is_name}
use Rattle.ri_base.specs.Expression.{is_width}
use Rattle.tokens.specs.Words.{text_terms}
use Rattle.query_printer.specs.Printed.{doubled}
use Rattle.query_reader.specs.Cursor.{At}
use Rattle.query_reader.specs.Bytes.{is_word_byte, begins, begins_in, skip}
use Rattle.query_reader.specs.Operators.{operator_of, name_of, behind_name, is_filter, is_combine, is_later, is_unknown}
use Rattle.query_reader.specs.Parts.{value_from, expect, number, field, unquoted, with_front}
use Rattle.query_reader.specs.Items.{numbered, entered, hash}
use Rattle.query_reader.specs.Exprs.{word_of, ends_in_star, word, quoted_of, quoted, simple}
use Rattle.query_language.specs.Grammar.{IsField, IsNumber, IsWord, IsAtom, of_word, of_words, of_quoted}
use Rattle.query_reader.specs.declared.operator.Operator.{Operator}
use Rattle.query_reader.proofs.ReadFits.{AllRead, bind_all, if_all}

-- RUNS

pub run_parts : (p : ℕ → Bool) (bytes : List ℕ) → take_while p bytes ++ skip p bytes ≡ bytes
run_parts p bytes = take-append-drop (prefix_len p bytes) bytes

pub run_all : (p : ℕ → Bool) (bytes : List ℕ) → list_all p (take_while p bytes) ≡ true
run_all p [] = refl
run_all p (b ∷ bytes) = by (p b) refl (run_all p bytes)
  where
    by : (v : Bool) → p b ≡ v → list_all p (take_while p bytes) ≡ true → list_all p (take (if v then 1 + prefix_len p bytes else 0) (b ∷ bytes)) ≡ true
    by true e further = let one : 1 + prefix_len p bytes ≡ suc (prefix_len p bytes) = omega arith in rw (one, e) further
    by false e further = refl

pub run_longest : (p : ℕ → Bool) (bytes : List ℕ) → begins_in p (skip p bytes) ≡ false
run_longest p [] = refl
run_longest p (b ∷ bytes) = by (p b) refl (run_longest p bytes)
  where
    by : (v : Bool) → p b ≡ v → begins_in p (skip p bytes) ≡ false → begins_in p (drop (if v then 1 + prefix_len p bytes else 0) (b ∷ bytes)) ≡ false
    by true e further = let one : 1 + prefix_len p bytes ≡ suc (prefix_len p bytes) = omega arith in rw one further
    by false e further = e

-- what is read: its text stands at the front, and behind it what is left
pub record Reads {A : Type 0} (P : A → List ℕ → List ℕ → Type 0) (bytes : List ℕ) (y : A × At) : Type 0 where
  pub text : List ℕ
  pub parts : bytes ≡ text ++ y.1.bytes
  pub is : P y.0 text y.1.bytes

-- nothing is passed over
abbrev pub Same : {A : Type 0} → At → A × At → Type 0
Same at y = y.1.bytes ≡ at.bytes

pub numbered-same : (n : ℕ) (at : At) → AllRead (Same at) (numbered n at)
unfolding numbered
numbered-same n at = if_all (Same at) (nat_lt 1000 (at.nodes + n)) _ _ (λ e. tt) (λ e. refl)

pub entered-same : (room n : ℕ) (at : At) → AllRead (Same at) (entered room n at)
unfolding entered
entered-same room n at = if_all (Same at) (room == 0) _ _ (λ e. tt) (λ e. numbered-same n at)

-- the operator is that of the name
abbrev pub Hashed : At → Operator × At → Type 0
Hashed at y = (y.0 ≡ operator_of (name_of at)) × (y.1.bytes ≡ at.bytes)

pub hash-same : (room : ℕ) (at : At) → AllRead (Hashed at) (hash room at)
unfolding hash
hash-same room at =
    let op = operator_of (name_of at) in
    if_all (Hashed at) (is_filter op && begins 40 (behind_name at)) _ _ (λ e. tt) (λ e.
    if_all (Hashed at) (is_combine op && begins 91 (behind_name at)) _ _ (λ e. tt) (λ e.
    if_all (Hashed at) (is_later op && begins 40 (behind_name at)) _ _ (λ e. tt) (λ e.
    if_all (Hashed at) (is_later op || is_unknown op) _ _ (λ e. tt) (λ e.
    bind_all (Same at) (Hashed at) (entered room 1 at) _ (entered-same room 1 at) (λ x k. (refl, k))))))

pub expect-reads : (b : ℕ) (at : At) → AllRead (λ y. at.bytes ≡ b ∷ y.1.bytes) (expect b at)
unfolding expect
expect-reads b at = if_all (λ y. at.bytes ≡ b ∷ y.1.bytes) (begins b at.bytes) _ _ (λ e. first b at.bytes e) (λ e. tt)
  where
    first : (b : ℕ) (bytes : List ℕ) → begins b bytes ≡ true → bytes ≡ b ∷ drop 1 bytes
    first b [] e = absurd cc
    first b (x ∷ bytes) e = ap (λ y. y ∷ bytes) (eqb-true x b e)

abbrev pub IsNumberHere : ℕ → List ℕ → List ℕ → Type 0
IsNumberHere n text behind = IsNumber n text

pub number-reads : (at : At) → AllRead (Reads IsNumberHere at.bytes) (number at)
unfolding number
number-reads at = if_all (Reads IsNumberHere at.bytes) (is_width (value_from 0 (take_while is_digit at.bytes))) _ _ (λ e. record { text = take_while is_digit at.bytes; parts = sym (run_parts is_digit at.bytes); is = record { run = run_all is_digit at.bytes; value = refl; is_width = e } }) (λ e. tt)

not_false : (b : Bool) → not b ≡ false → b ≡ true
not_false true e = refl
not_false false e = absurd cc

pub field-reads : (at : At) → AllRead (Reads IsField at.bytes) (field at)
unfolding field
field-reads at =
    let name = map lower (take_while is_letter_or_digit at.bytes) in
    if_all (Reads IsField at.bytes) (not (is_name name)) _ _ (λ e. tt) (λ e.
    if_all (Reads IsField at.bytes) (begins 44 (skip is_letter_or_digit at.bytes)) _ _ (λ g. tt) (λ g.
    record { text = take_while is_letter_or_digit at.bytes; parts = sym (run_parts is_letter_or_digit at.bytes); is = record { run = run_all is_letter_or_digit at.bytes; longest = run_longest is_letter_or_digit at.bytes; same = refl; is_name = not_false (is_name name) e; no_comma = g } }))

-- WORDS

word_of-reads : (room : ℕ) (text : List ℕ) (at : At) (ts : List (List ℕ)) → text_terms text ≡ ts → (behind : List ℕ) → IsWord text behind → AllRead (λ y. (y.1.bytes ≡ at.bytes) × IsAtom y.0 text behind) (word_of room ts at)
unfolding word_of
word_of-reads room text at [] e behind h = tt
word_of-reads room text at (t ∷ []) e behind h = bind_all (Same at) (λ y. (y.1.bytes ≡ at.bytes) × IsAtom y.0 text behind) (numbered 1 at) _ (numbered-same 1 at) (λ x k. (k, of_word t text behind h e))
word_of-reads room text at (t ∷ u ∷ more) e behind h = bind_all (Same at) (λ y. (y.1.bytes ≡ at.bytes) × IsAtom y.0 text behind) (entered room (length (t ∷ u ∷ more) + 1) at) _ (entered-same room (length (t ∷ u ∷ more) + 1) at) (λ x k. (k, of_words (t ∷ u ∷ more) text behind h e (omega arith)))

pub some_run : (p : ℕ → Bool) (bytes : List ℕ) → begins_in p bytes ≡ true → 0 < length (take_while p bytes)
some_run p [] e = absurd cc
some_run p (b ∷ bytes) e = let one : 1 + prefix_len p bytes ≡ suc (prefix_len p bytes) = omega arith in rw (e, one) (omega arith)

pub word-reads : (room : ℕ) (at : At) → begins_in is_word_byte at.bytes ≡ true → AllRead (Reads IsAtom at.bytes) (word room at)
unfolding word
word-reads room at some =
    let bytes = take_while is_word_byte at.bytes in
    if_all (Reads IsAtom at.bytes) (ends_in_star bytes) _ _ (λ e. tt) (λ e.
    let is_word : IsWord bytes (skip is_word_byte at.bytes) = record { some = some_run is_word_byte at.bytes some; run = run_all is_word_byte at.bytes; longest = run_longest is_word_byte at.bytes; no_star = e } in
    bind_all (λ y. (y.1.bytes ≡ at.bytes) × IsAtom y.0 bytes (skip is_word_byte at.bytes)) (Reads IsAtom at.bytes) (word_of room (text_terms bytes) at) _ (word_of-reads room bytes at (text_terms bytes) refl (skip is_word_byte at.bytes) is_word)
    (λ y k. record { text = bytes; parts = sym (run_parts is_word_byte at.bytes); is = k.1 }))

-- QUOTED

record Unquoted (t rest bytes : List ℕ) : Type 0 where
  pub parts : bytes ≡ doubled t ++ 34 ∷ rest
  pub alone : begins 34 rest ≡ false

some_pair : (a c b d : List ℕ) → ◌≡◌ {A = Option (List ℕ × List ℕ)} (Some (a, b)) (Some (c, d)) → (a ≡ c) × (b ≡ d)
some_pair a c b d e = let same : ◌≡◌ {A = List ℕ × List ℕ} (a, b) (c, d) = cc in (ap (λ x. x.0) same, ap (λ x. x.1) same)

-- one byte more
front_reads : (b : ℕ) (o : Option (List ℕ × List ℕ)) (t rest : List ℕ) (P : List ℕ → List ℕ → Type 0) → with_front b o ≡ Some (t, rest) → ((u : List ℕ) → o ≡ Some (u, rest) → P (b ∷ u) rest) → P t rest
front_reads b None t rest P e k = absurd cc
front_reads b (Some (u, r)) t rest P e k = let same = some_pair (b ∷ u) t r rest e in subst (λ x. P x rest) same.0 (k u (ap (λ x. Some (u, x)) same.1))

abbrev ending : Bool → Option (List ℕ × List ℕ)
ending v = if v then Some ([], []) else None

abbrev split : Bool → Bool → ℕ → ℕ → List ℕ → Option (List ℕ × List ℕ)
split v w b c bytes = if v then with_front b (unquoted (c ∷ bytes)) else if w then with_front 34 (unquoted bytes) else Some ([], c ∷ bytes)

unquoted-reads : (bytes t rest : List ℕ) → unquoted bytes ≡ Some (t, rest) → Unquoted t rest bytes
unquoted-reads [] t rest e = absurd cc
unquoted-reads (b ∷ []) t rest e = by (b == 34) refl e
  where
    by : (v : Bool) → (b == 34) ≡ v → ending v ≡ Some (t, rest) → Unquoted t rest (b ∷ [])
    by true h e = let same = some_pair [] t [] rest e in subst (λ x. Unquoted x rest (b ∷ [])) same.0 (subst (λ x. Unquoted [] x (b ∷ [])) same.1 (record { parts = ap (λ x. x ∷ []) (eqb-true b 34 h); alone = refl }))
    by false h e = absurd cc
unquoted-reads (b ∷ c ∷ bytes) t rest e = by (b == 34) (c == 34) refl refl (λ u r f. unquoted-reads (c ∷ bytes) u r f) (λ u r f. unquoted-reads bytes u r f) e
  where
    by : (v w : Bool) → (b == 34) ≡ v → (c == 34) ≡ w → ((u r : List ℕ) → unquoted (c ∷ bytes) ≡ Some (u, r) → Unquoted u r (c ∷ bytes)) → ((u r : List ℕ) → unquoted bytes ≡ Some (u, r) → Unquoted u r bytes) → split (not v) w b c bytes ≡ Some (t, rest) → Unquoted t rest (b ∷ c ∷ bytes)
    by false w h k one two e = front_reads b (unquoted (c ∷ bytes)) t rest (λ x r. Unquoted x r (b ∷ c ∷ bytes)) e (λ u f. let m = one u rest f in record { parts = rw h (ap (λ xs. b ∷ xs) m.parts); alone = m.alone })
    by true true h k one two e = front_reads 34 (unquoted bytes) t rest (λ x r. Unquoted x r (b ∷ c ∷ bytes)) e (λ u f. let m = two u rest f in record { parts = ap (λ x. x ∷ c ∷ bytes) (eqb-true b 34 h) ∙ ap (λ x. 34 ∷ x ∷ bytes) (eqb-true c 34 k) ∙ ap (λ xs. 34 ∷ 34 ∷ xs) m.parts; alone = m.alone })
    by true false h k one two e = let same = some_pair [] t (c ∷ bytes) rest e in subst (λ x. Unquoted x rest (b ∷ c ∷ bytes)) same.0 (subst (λ x. Unquoted [] x (b ∷ c ∷ bytes)) same.1 (record { parts = ap (λ x. x ∷ c ∷ bytes) (eqb-true b 34 h); alone = k }))

pub begins_parts : (b : ℕ) (bytes : List ℕ) → begins b bytes ≡ true → bytes ≡ b ∷ drop 1 bytes
begins_parts b [] e = absurd cc
begins_parts b (x ∷ bytes) e = ap (λ y. y ∷ bytes) (eqb-true x b e)

quoted_of-reads : (at : At) (o : Option (List ℕ × List ℕ)) → begins 34 at.bytes ≡ true → unquoted (drop 1 at.bytes) ≡ o → AllRead (Reads IsAtom at.bytes) (quoted_of o at)
unfolding quoted_of
quoted_of-reads at None b e = tt
quoted_of-reads at (Some (t, rest)) b e = bind_all (Same at) (Reads IsAtom at.bytes) (numbered 1 at) _ (numbered-same 1 at)
    (λ x k. if_all (Reads IsAtom at.bytes) (is_term t) _ _
    (λ h. let u = unquoted-reads (drop 1 at.bytes) t rest e in record { text = 34 ∷ (doubled t ++ 34 ∷ []); parts = begins_parts 34 at.bytes b ∙ ap (λ xs. 34 ∷ xs) (u.parts ∙ sym (append_assoc (doubled t) (34 ∷ []) rest)); is = of_quoted t rest h u.alone }) (λ h. tt))

pub simple-reads : (room : ℕ) (at : At) → AllRead (Reads IsAtom at.bytes) (simple room at)
unfolding simple quoted
simple-reads room at = if_all (Reads IsAtom at.bytes) (begins 34 at.bytes) _ _ (λ e. quoted_of-reads at (unquoted (drop 1 at.bytes)) e refl)
    (λ e. if_all (Reads IsAtom at.bytes) (begins_in is_word_byte at.bytes) _ _ (λ g. word-reads room at g) (λ g. tt))
