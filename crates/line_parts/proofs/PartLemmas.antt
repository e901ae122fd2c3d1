-- Parts of a text.
use Rattle.std.proofs.Common.{ℕ, ◌≡◌, ◌<◌, ◌+◌, ◌-◌, true, false, List, length, take, drop, arith, refl, length-drop}
use Rattle.std.specs.Prelude.{Some, None, nat_lt}
use Rattle.std.proofs.lemmas.Bool.{le-ltb, lt-ltb}
use Rattle.std.proofs.lemmas.List.{take_all}
use Rattle.std.specs.List.{position_or_len}
use Rattle.memchr.specs.Find.{IsFirstByte, is_byte as is_found}
use Rattle.line_parts.specs.Parts.{is_byte, split}
use Rattle.line_parts.proofs.FirstByte.{first_byte, no_byte}

pub none_found : (a : ℕ) (text : List ℕ) → IsFirstByte (is_found a) text None → length text ≡ position_or_len (is_byte a) text
none_found a text none = no_byte a text none

pub split_found : (a : ℕ) (text : List ℕ) (n : ℕ) → IsFirstByte (is_found a) text (Some n) → Some (take n text, take (length text - (n + 1)) (drop (n + 1) text)) ≡ split a text
split_found a text n first =
    let found = first_byte a text n first in
    let is : n ≡ position_or_len (is_byte a) text = found.0 in
    let lt : position_or_len (is_byte a) text < length text = omega (arith, found.1, is) in
    let test : nat_lt (position_or_len (is_byte a) text) (length text) ≡ true = lt-ltb _ _ lt in
    let rest : take (length text - (n + 1)) (drop (n + 1) text) ≡ drop (n + 1) text = take_all _ _ (omega (arith, length-drop (n + 1) text)) in
    rw (test, rest, ← is) refl

pub split_none : (a : ℕ) (text : List ℕ) → IsFirstByte (is_found a) text None → None ≡ split a text
split_none a text none =
    let end : length text ≡ position_or_len (is_byte a) text = none_found a text none in
    let test : nat_lt (position_or_len (is_byte a) text) (length text) ≡ false = le-ltb _ _ (omega (arith, end)) in
    rw test refl
