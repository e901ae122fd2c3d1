-- Lines one behind the other, and their texts.
use Rattle.std.proofs.Common.{ℕ, zero, suc, ◌≡◌, ◌<◌, ◌+◌, Bool, true, false, List, [], ◌∷◌, ◌++◌, Option, length, drop, refl, sym, ap, ◌∙◌, arith, length-drop, add-one}
use Rattle.std.specs.Prelude.{Some, None, nat_lt, ◌||◌}
use Rattle.std.proofs.lemmas.Bool.{ltb-false}
use Rattle.std.specs.Option.{option_map}
use Rattle.std.specs.List.{after_first, flat_map, position_or_len}
use Rattle.std.specs.Str.{IsTrimAscii}
use Rattle.std.specs.Io.KnownBytes.{IsAtEnd}
use Rattle.std.proofs.lemmas.Str.Ascii.{trim_ascii_is}
use Rattle.line_reader.specs.Lines.{behind_line, is_feed, is_too_long, line}
use Rattle.line_reader.specs.Reads.{GivesLine, HasRead}
use Rattle.line_reader.specs.Texts.{Placed, lines_at, lines_behind, placed, short_text, text_answer, text_entries, text_entries_of, texts_at, trimmed, trimmed_start}
use Rattle.line_reader.specs.declared.line.Line.{Line}

lines_behind_is : (offset n : ℕ) (bytes : List ℕ) → lines_behind offset n bytes ≡ lines_at (offset + n) (drop n bytes)
unfolding lines_at
lines_behind_is offset zero [] = refl
lines_behind_is offset (suc n) [] = refl
lines_behind_is offset zero (b ∷ bytes) = let e : offset + 0 ≡ offset = omega arith in rw e refl
lines_behind_is offset (suc n) (b ∷ bytes) = let e : suc offset + n ≡ offset + suc n = omega arith in lines_behind_is (suc offset) n bytes ∙ ap (λ k. lines_at k (drop n bytes)) e

same_or_end : (i j : ℕ) (bytes : List ℕ) → (0 < length bytes → i ≡ j) → lines_at i bytes ≡ lines_at j bytes
unfolding lines_at
same_or_end i j [] same = refl
same_or_end i j (b ∷ bytes) same = ap (λ k. lines_at k (b ∷ bytes)) (same (omega arith))

-- the lines from one on
pub lines_line : (offset at b : ℕ) (bytes : List ℕ) → at + length (behind_line (b ∷ bytes)) ≡ offset + length (b ∷ bytes)
    → lines_at offset (b ∷ bytes) ≡ (offset, short_text (line (b ∷ bytes))) ∷ lines_at at (behind_line (b ∷ bytes))
unfolding lines_at behind_line
lines_line offset at b bytes e =
    let pos = position_or_len is_feed (b ∷ bytes) in
    let few = length-drop (pos + 1) (b ∷ bytes) in
    let rest : drop pos bytes ≡ after_first is_feed (b ∷ bytes) = ap (λ i. drop i (b ∷ bytes)) (sym (add-one pos)) in
    ap (λ xs. (offset, short_text (line (b ∷ bytes))) ∷ xs) (lines_behind_is (suc offset) pos bytes ∙ ap (lines_at (suc offset + pos)) rest
    ∙ same_or_end (suc offset + pos) at (after_first is_feed (b ∷ bytes)) (λ some. omega (arith, some, few, e)))

-- the texts of a line that was read, before those behind it
abbrev line_texts : Line → List ℕ → ℕ → List ℕ → List Placed
line_texts found text at rest = text_entries (placed found text) ++ texts_at at rest

line_told : (found : Line) (text : List ℕ) (place : ℕ) (bytes : List ℕ) → found.place ≡ place → HasRead found text bytes → text_entries (place, short_text (line bytes)) ≡ text_entries (placed found text)
line_told found text place bytes p is = by (is_too_long (line bytes)) refl
  where
    by : (v : Bool) → is_too_long (line bytes) ≡ v → text_entries (place, short_text (line bytes)) ≡ text_entries (placed found text)
    by true e = let long : found.is_too_long ≡ true = is.size ∙ e in rw (e, long, p) refl
    by false e =
        let short : found.is_too_long ≡ false = is.size ∙ e in
        let same : text ≡ line bytes = is.text short in
        rw (e, short, p, same) refl

at_line : (found : Line) (text : List ℕ) (offset at : ℕ) (bytes : List ℕ) → found.place ≡ offset → HasRead found text bytes → at + length (behind_line bytes) ≡ offset + length bytes → texts_at offset bytes ≡ line_texts found text at (behind_line bytes)
at_line found text offset at [] p is e = let some = is.some in absurd (omega arith)
at_line found text offset at (b ∷ bytes) p is e = ap (flat_map text_entries) (lines_line offset at b bytes e) ∙ ap (λ xs. xs ++ texts_at at (behind_line (b ∷ bytes))) (line_told found text offset (b ∷ bytes) p is)

texts_given : (found : Line) (text : List ℕ) (offset at : ℕ) (old new : Option (List ℕ)) → GivesLine (Some found) text offset old new → option_map (λ xs. at + length xs) new ≡ option_map (λ xs. offset + length xs) old
    → option_map (texts_at offset) old ≡ option_map (line_texts found text at) new
texts_given found text offset at None new (place, rest, is) e = rw rest refl
texts_given found text offset at (Some bytes) new (place, rest, is) e =
    let count : Some (at + length (behind_line bytes)) ≡ Some (offset + length bytes) = ap (option_map (λ xs. at + length xs)) (sym rest) ∙ e in
    let same : at + length (behind_line bytes) ≡ offset + length bytes = cc in
    rw rest (ap (λ xs. Some xs) (at_line found text offset at bytes place is same))

module _ (found : Line) (text : List ℕ) (offset at : ℕ) (old new : Option (List ℕ)) (gives : GivesLine (Some found) text offset old new) (same_end : option_map (λ xs. at + length xs) new ≡ option_map (λ xs. offset + length xs) old) where
  -- a line with a text, or that is too long
  pub texts_some : (found.is_too_long || nat_lt 0 (length (trimmed text))) ≡ true → option_map (texts_at offset) old ≡ option_map (text_answer (Some found) text at) new
  texts_some some = texts_given found text offset at old new gives same_end ∙ map_is new
    where
      entries : (xs : List ℕ) → nat_lt 0 (length xs) ≡ true → text_entries_of found.place xs ≡ (found.place, Some xs) ∷ []
      entries [] e = cc
      entries (x ∷ xs) e = refl

      is : (rest : List ℕ) → line_texts found text at rest ≡ text_answer (Some found) text at rest
      is rest = by found.is_too_long refl some
        where
          by : (v : Bool) → found.is_too_long ≡ v → (v || nat_lt 0 (length (trimmed text))) ≡ true → line_texts found text at rest ≡ text_answer (Some found) text at rest
          by true e s = rw e refl
          by false e s = rw e (ap (λ xs. xs ++ texts_at at rest) (entries (trimmed text) s))

      map_is : (o : Option (List ℕ)) → option_map (line_texts found text at) o ≡ option_map (text_answer (Some found) text at) o
      map_is None = refl
      map_is (Some rest) = ap (λ xs. Some xs) (is rest)

  -- a line of white space
  pub texts_none : (found.is_too_long || nat_lt 0 (length (trimmed text))) ≡ false → option_map (texts_at offset) old ≡ option_map (texts_at at) new
  texts_none none = texts_given found text offset at old new gives same_end ∙ map_is new
    where
      empty : (xs : List ℕ) → nat_lt 0 (length xs) ≡ false → text_entries_of found.place xs ≡ []
      empty [] e = refl
      empty (x ∷ xs) e = absurd (let le = ltb-false 0 (length (x ∷ xs)) e in omega (arith, le))

      is : (rest : List ℕ) → line_texts found text at rest ≡ texts_at at rest
      is rest = by found.is_too_long refl none
        where
          by : (v : Bool) → found.is_too_long ≡ v → (v || nat_lt 0 (length (trimmed text))) ≡ false → line_texts found text at rest ≡ texts_at at rest
          by true e s = cc
          by false e s = rw e (ap (λ xs. xs ++ texts_at at rest) (empty (trimmed text) s))

      map_is : (o : Option (List ℕ)) → option_map (line_texts found text at) o ≡ option_map (texts_at at) o
      map_is None = refl
      map_is (Some rest) = ap (λ xs. Some xs) (is rest)

pub texts_end : (offset at : ℕ) (old new : Option (List ℕ)) → IsAtEnd old → option_map (λ xs. at + length xs) new ≡ option_map (λ xs. offset + length xs) old → option_map (texts_at offset) old ≡ option_map {U = List Placed} (λ _. []) new
unfolding lines_at
texts_end offset at None None ended e = refl
texts_end offset at None (Some ys) ended e = cc
texts_end offset at (Some xs) None ended e = cc
texts_end offset at (Some xs) (Some ys) ended e = rw ended refl

-- what is said of the texts that there were, by the answer and the texts behind it
pub texts_then : {A : Type 0} (f : List Placed → A) (offset : ℕ) (answer : List ℕ → List Placed) (g : List ℕ → A) (old new : Option (List ℕ)) → option_map (texts_at offset) old ≡ option_map answer new → ((rest : List ℕ) → f (answer rest) ≡ g rest)
    → option_map (λ bytes. f (texts_at offset bytes)) old ≡ option_map g new
texts_then f offset answer g None None e each = refl
texts_then f offset answer g None (Some ys) e each = cc
texts_then f offset answer g (Some xs) None e each = cc
texts_then f offset answer g (Some xs) (Some ys) e each =
    let same : texts_at offset xs ≡ answer ys = cc in
    ap (λ x. Some x) (ap f same ∙ each ys)

pub trimmed_is : (text r : List ℕ) → IsTrimAscii text r → r ≡ trimmed text
unfolding trimmed
trimmed_is text r is = trim_ascii_is text r (trimmed_start text) refl is
