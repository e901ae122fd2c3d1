-- Words one behind the other.
use Rattle.std.proofs.Common.{ℕ, zero, suc, ◌≡◌, ◌<◌, ◌+◌, List, [], ◌∷◌, ◌++◌, ◌∙◌, Bor, None, Some, slice_get, drop, length, map, arith, refl, true, false, bytes_eq, codes}
use Rattle.std.proofs.lemmas.Bool.{and_from, and_parts}
use Rattle.std.proofs.lemmas.List.{append_assoc, map_push}
use Rattle.std.specs.Str.{is_utf8}
use Rattle.command_words.specs.Given.{Values}
use Rattle.command_words.specs.Table.{command_by}
use Rattle.command_words.specs.Texts.{are_texts}

-- what is left from a word on
pub word_then : (xs : List (List ℕ)) (i : ℕ) (w : List ℕ) → slice_get xs i ≡ Some w → drop i xs ≡ w ∷ drop (i + 1) xs
word_then [] i w is = cc
word_then (x ∷ xs) zero w is = let e : x ≡ w = cc in rw e refl
word_then (x ∷ xs) (suc i) w is = let next : suc i + 1 ≡ suc (i + 1) = omega arith in rw next (word_then xs i w is)

pub word_there : (xs : List (List ℕ)) (i : ℕ) → slice_get xs i ≡ None → i < length xs → ⊥
word_there [] i is lt = omega (arith, lt)
word_there (x ∷ xs) zero is lt = cc
word_there (x ∷ xs) (suc i) is lt = word_there xs i is (omega (arith, lt))

-- the word goes from what is left to what is kept
pub word_kept : (kept : List (Bor (List ℕ))) (words : List (List ℕ)) (i : ℕ) (w : Bor (List ℕ)) → slice_get words i ≡ Some w.now → map (λ word. word.now) kept ++ drop i words ≡ drop 2 words
    → map (λ word. word.now) (kept ++ w ∷ []) ++ drop (i + 1) words ≡ drop 2 words
word_kept kept words i w is before =
    let then = word_then words i w.now is in
    let push = map_push (λ (word : Bor (List ℕ)). word.now) kept w in
    rw push (append_assoc (map (λ word. word.now) kept) (w.now ∷ []) (drop (i + 1) words) ∙ rw (← then) before)

pub text_kept : (kept : List (Bor (List ℕ))) (w : Bor (List ℕ)) → are_texts (map (λ word. word.now) kept) ≡ true → is_utf8 w.now ≡ true
    → are_texts (map (λ word. word.now) (kept ++ w ∷ [])) ≡ true
text_kept [] w before text = and_from (is_utf8 w.now) true text refl
text_kept (x ∷ kept) w before text =
    let parts = and_parts (is_utf8 x.now) (are_texts (map (λ word. word.now) kept)) before in
    and_from (is_utf8 x.now) _ parts.0 (text_kept kept w parts.1 text)

pub no_command : (command : List ℕ) (given : Values) → bytes_eq command (codes "scan") ≡ false → bytes_eq command (codes "query") ≡ false → bytes_eq command (codes "explain") ≡ false
    → bytes_eq command (codes "create") ≡ false → bytes_eq command (codes "add") ≡ false → bytes_eq command (codes "delete") ≡ false → bytes_eq command (codes "merge") ≡ false → bytes_eq command (codes "prior") ≡ false
    → bytes_eq command (codes "session") ≡ false → bytes_eq command (codes "gen") ≡ false → None ≡ command_by command given
no_command command given scan query explain create add delete merge prior session gen = rw (scan, query, explain, create, add, delete, merge, prior, session, gen) refl
