-- The table of lines of a session script.
use Rattle.std.specs.Prelude.{ℕ, List, [], ◌∷◌, codes, Option, Some, None, if◌then◌else◌}
use Rattle.std.specs.Str.{bytes_eq}
use Rattle.line_parts.specs.Digits.{number_to}
use Rattle.line_parts.specs.Parts.{split}
use Rattle.session_events.specs.declared.event.TheConstants.{MAX_ADD_BYTES, MAX_RESULTS, MAX_TURN_DOCS}
use Rattle.script_lines.specs.Parts.{docno_of, name_of, text_of}
use Rattle.script_lines.specs.declared.asked.Asked.{Asked}
use Rattle.script_lines.specs.declared.asked.Asked.TheVariants.{Nothing, Unknown, Event as event, Add, End}
use Rattle.session_events.specs.declared.event.Event.{Event}
use Rattle.session_events.specs.declared.event.Event.TheVariants.{Delete, Flush, Merge, Turn, Open, Step, Show, Explain, Scan, Close}

-- what is asked with a part of the line, where that has its form
abbrev pub with_part : {A : Type 0} → Option A → (A → Asked) → Asked
with_part None f = Unknown
with_part (Some x) f = f x

-- the same with the two parts of what is left of the line
abbrev pub with_parts : List ℕ → (List ℕ → List ℕ → Asked) → Asked
with_parts rest f = with_part (split 32 rest) (λ x. f x.0 x.1)

abbrev pub asked_delete : List ℕ → Asked
asked_delete rest = with_part (docno_of rest) (λ docno. event (Delete docno))

-- NAME K QUERY
unfoldable pub asked_open : List ℕ → Asked
asked_open rest = with_parts rest (λ name further. with_parts further (λ k text. with_part (number_to MAX_RESULTS k) (λ k. with_part (text_of text) (λ text. with_part (name_of name) (λ name. event (Open name k text))))))

-- NAME N
unfoldable pub asked_step : List ℕ → Asked
asked_step rest = with_parts rest (λ name docs. with_part (number_to MAX_TURN_DOCS docs) (λ docs. with_part (name_of name) (λ name. event (Step name docs))))

-- NAME RANK
unfoldable pub asked_explain : List ℕ → Asked
asked_explain rest = with_parts rest (λ name rank. with_part (number_to MAX_RESULTS rank) (λ rank. with_part (name_of name) (λ name. event (Explain name rank))))

abbrev pub asked_scan : List ℕ → Asked
asked_scan rest = with_part (text_of rest) (λ text. event (Scan text))

abbrev pub asked_named : (List ℕ → Event) → List ℕ → Asked
asked_named of rest = with_part (name_of rest) (λ name. event (of name))

-- a word behind which a space and further parts stand
unfoldable pub asked_with : List ℕ → List ℕ → Asked
asked_with word rest =
    if bytes_eq word (codes "add") then with_part (number_to MAX_ADD_BYTES rest) (λ n. Add n) else
    if bytes_eq word (codes "delete") then asked_delete rest else
    if bytes_eq word (codes "turn") then with_part (number_to MAX_TURN_DOCS rest) (λ n. event (Turn n)) else
    if bytes_eq word (codes "open") then asked_open rest else
    if bytes_eq word (codes "step") then asked_step rest else
    if bytes_eq word (codes "show") then asked_named Show rest else
    if bytes_eq word (codes "explain") then asked_explain rest else
    if bytes_eq word (codes "scan") then asked_scan rest else
    if bytes_eq word (codes "close") then asked_named Close rest else
    Unknown

-- a word alone
unfoldable pub asked_bare : List ℕ → Asked
asked_bare word =
    if bytes_eq word (codes "flush") then event Flush else
    if bytes_eq word (codes "merge") then event Merge else
    if bytes_eq word (codes "end") then End else
    Unknown

abbrev pub asked_parts : List ℕ → Option (List ℕ × List ℕ) → Asked
asked_parts text None = asked_bare text
asked_parts text (Some x) = asked_with x.0 x.1

-- what a line asks for
unfoldable pub asked : List ℕ → Asked
asked [] = Nothing
asked (b ∷ text) = asked_parts (b ∷ text) (split 32 (b ∷ text))
