-- Each line asks for something of the table.
use Rattle.std.proofs.Common.{ℕ, ◌≡◌, Bool, true, false, List, [], ◌∷◌, Option, codes, bytes_eq, refl}
use Rattle.std.specs.Prelude.{Some, None, if◌then◌else◌}
use Rattle.std.specs.Str.{is_utf8}
use Rattle.line_parts.proofs.DigitLemmas.{number_in}
use Rattle.line_parts.specs.Digits.{number_to}
use Rattle.line_parts.specs.Parts.{split}
use Rattle.session_events.specs.declared.event.TheConstants.{MAX_ADD_BYTES, MAX_RESULTS, MAX_TURN_DOCS}
use Rattle.script_lines.specs.Parts.{docno_of, name_of, text_of}
use Rattle.script_lines.specs.Asked.{asked, asked_bare, asked_explain, asked_named, asked_open, asked_parts, asked_step, asked_with, with_part}
use Rattle.script_lines.specs.Table.{IsInTable, IsLineEvent}
use Rattle.script_lines.specs.declared.asked.Asked.{Asked}
use Rattle.script_lines.specs.declared.asked.Asked.TheVariants.{Event as event}
use Rattle.session_events.specs.declared.event.Event.{Event}
use Rattle.session_events.specs.declared.event.Event.TheVariants.{Show, Close}

part_in : {A : Type 0} (o : Option A) (f : A → Asked) → ((x : A) → o ≡ Some x → IsInTable (f x)) → IsInTable (with_part o f)
part_in None f each = tt
part_in (Some x) f each = each x refl

if_in : (b : Bool) (x y : Asked) → IsInTable x → IsInTable y → IsInTable (if b then x else y)
if_in true x y p q = p
if_in false x y p q = q

text_in : (text found : List ℕ) → text_of text ≡ Some found → is_utf8 found ≡ true
text_in text found e = by (is_utf8 text) refl e
  where
    by : (v : Bool) → is_utf8 text ≡ v → (if v then Some text else None) ≡ Some found → is_utf8 found ≡ true
    by true u e = let same : text ≡ found = cc in rw (← same) u
    by false u e = cc

named_in : (of : List ℕ → Event) (rest : List ℕ) → ((name : List ℕ) → IsLineEvent (of name)) → IsInTable (asked_named of rest)
named_in of rest each = part_in (name_of rest) (λ name. event (of name)) (λ name _. each name)

open_in : (rest : List ℕ) → IsInTable (asked_open rest)
unfolding asked_open
open_in rest = part_in (split 32 rest) _ (λ x _. part_in (split 32 x.1) _ (λ y _. part_in (number_to MAX_RESULTS y.0) _ (λ k a. part_in (text_of y.1) _ (λ text b. part_in (name_of x.0) _ (λ name _. (number_in MAX_RESULTS k y.0 a, text_in y.1 text b))))))

step_in : (rest : List ℕ) → IsInTable (asked_step rest)
unfolding asked_step
step_in rest = part_in (split 32 rest) _ (λ x _. part_in (number_to MAX_TURN_DOCS x.1) _ (λ n a. part_in (name_of x.0) _ (λ name _. number_in MAX_TURN_DOCS n x.1 a)))

explain_in : (rest : List ℕ) → IsInTable (asked_explain rest)
unfolding asked_explain
explain_in rest = part_in (split 32 rest) _ (λ x _. part_in (number_to MAX_RESULTS x.1) _ (λ n a. part_in (name_of x.0) _ (λ name _. number_in MAX_RESULTS n x.1 a)))

with_in : (word rest : List ℕ) → IsInTable (asked_with word rest)
unfolding asked_with
with_in word rest =
    if_in (bytes_eq word (codes "add")) _ _ (part_in (number_to MAX_ADD_BYTES rest) _ (λ n a. number_in MAX_ADD_BYTES n rest a)) (
    if_in (bytes_eq word (codes "delete")) _ _ (part_in (docno_of rest) _ (λ _ _. tt)) (
    if_in (bytes_eq word (codes "turn")) _ _ (part_in (number_to MAX_TURN_DOCS rest) _ (λ n a. number_in MAX_TURN_DOCS n rest a)) (
    if_in (bytes_eq word (codes "open")) _ _ (open_in rest) (
    if_in (bytes_eq word (codes "step")) _ _ (step_in rest) (
    if_in (bytes_eq word (codes "show")) _ _ (named_in Show rest (λ _. tt)) (
    if_in (bytes_eq word (codes "explain")) _ _ (explain_in rest) (
    if_in (bytes_eq word (codes "scan")) _ _ (part_in (text_of rest) _ (λ text b. text_in rest text b)) (
    if_in (bytes_eq word (codes "close")) _ _ (named_in Close rest (λ _. tt)) tt))))))))

bare_in : (word : List ℕ) → IsInTable (asked_bare word)
unfolding asked_bare
bare_in word = if_in (bytes_eq word (codes "flush")) _ _ tt (if_in (bytes_eq word (codes "merge")) _ _ tt (if_in (bytes_eq word (codes "end")) _ _ tt tt))

pub asked_in : (text : List ℕ) → IsInTable (asked text)
unfolding asked
asked_in [] = tt
asked_in (b ∷ text) = by (split 32 (b ∷ text))
  where
    by : (o : Option (List ℕ × List ℕ)) → IsInTable (asked_parts (b ∷ text) o)
    by None = bare_in (b ∷ text)
    by (Some x) = with_in x.0 x.1
