-- How clap looks at a word by itself, by the word's form.
use Rattle.std.proofs.Common.{◌≡◌, ℕ, Bool, true, false, ◌==◌, List, [], ◌∷◌, Option, None, Some, slice_get, chars, refl, sym, subst, bytes_eq, encode_utf8_all, arith, IsUtf8, IsCharBoundary}
use Rattle.std.proofs.lemmas.Bool.{eqb-true}
use Rattle.std.proofs.lemmas.Str.{IsCharBoundary-after_ascii, IsUtf8-drop, IsUtf8-from_is_utf8, encodes-chars}
use Rattle.std.specs.Str.{is_utf8}
use Rattle.clap.specs.Lexer.{long_of, short_of}
use Rattle.command_words.specs.Items.{end, form_of, named, other, plain}

abbrev pub two_dashes : List ℕ
two_dashes = 45 ∷ 45 ∷ []

pub data Looks (word : List ℕ) : Type 0 where
  as_plain : form_of word ≡ plain → bytes_eq word two_dashes ≡ false → long_of word ≡ None → short_of word ≡ None → Looks word
  as_named : (name : List ℕ) (value : Option (List ℕ)) → form_of word ≡ named name value → bytes_eq word two_dashes ≡ false → long_of word ≡ Some (name, value) → Looks word
  as_end : form_of word ≡ end → bytes_eq word two_dashes ≡ true → Looks word
  as_other : (b : ℕ) (bs : List ℕ) → word ≡ 45 ∷ b ∷ bs → form_of word ≡ other → bytes_eq word two_dashes ≡ false → long_of word ≡ None → short_of word ≡ Some (b ∷ bs) → Looks word

two_in_front : (bs : List ℕ) → Looks (45 ∷ 45 ∷ bs)
two_in_front [] = as_end refl refl
two_in_front (b ∷ bs) = as_named _ _ refl refl refl

one_in_front : (b : ℕ) (bs : List ℕ) (t : Bool) → (b == 45) ≡ t → Looks (45 ∷ b ∷ bs)
one_in_front b bs true e = subst (λ (c : ℕ). Looks (45 ∷ c ∷ bs)) (sym (eqb-true b 45 e)) (two_in_front bs)
one_in_front b bs false e = as_other b bs refl (rw e refl) (rw e refl) (rw e refl) (rw e refl)

dash_in_front : (bs : List ℕ) → Looks (45 ∷ bs)
dash_in_front [] = as_plain refl refl refl refl
dash_in_front (b ∷ bs) = one_in_front b bs (b == 45) refl

any_in_front : (b : ℕ) (bs : List ℕ) (t : Bool) → (b == 45) ≡ t → Looks (b ∷ bs)
any_in_front b bs true e = subst (λ (c : ℕ). Looks (c ∷ bs)) (sym (eqb-true b 45 e)) (dash_in_front bs)
any_in_front b bs false e = as_plain (rw e refl) (rw e refl) (rw e refl) (rw e refl)

pub looks : (word : List ℕ) → Looks word
looks [] = as_plain refl refl refl refl
looks (b ∷ bs) = any_in_front b bs (b == 45) refl

-- ---- a text that isn't empty has a first character

first_of_some : (b : ℕ) (bs cs : List ℕ) → encode_utf8_all cs ≡ b ∷ bs → (c : ℕ) × (slice_get cs 0 ≡ Some c)
first_of_some b bs [] e = cc
first_of_some b bs (c ∷ cs) e = (c, refl)

pub first_char : (b : ℕ) (bs : List ℕ) → is_utf8 (45 ∷ b ∷ bs) ≡ true → (c : ℕ) × (slice_get (chars (b ∷ bs)) 0 ≡ Some c)
first_char b bs text =
    let whole : IsUtf8 (45 ∷ b ∷ bs) = IsUtf8-from_is_utf8 (45 ∷ b ∷ bs) text in
    let cut : IsCharBoundary (45 ∷ b ∷ bs) 1 = IsCharBoundary-after_ascii (45 ∷ b ∷ bs) 0 whole (omega arith) (omega arith) in
    let rest : IsUtf8 (b ∷ bs) = IsUtf8-drop (45 ∷ b ∷ bs) 1 whole cut in
    first_of_some b bs (chars (b ∷ bs)) (encodes-chars (b ∷ bs) rest)
