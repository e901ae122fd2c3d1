-- a byte holds the length of a docno, a term or a name
use Rattle.std.proofs.Common.{◌≡◌, ◌<◌, ◌≤◌, ◌&&◌, nat_le, ℕ, true, List, length, arith}
use Rattle.std.specs.List.{list_all}
use Rattle.std.specs.Prelude.{IsTrue}
use Rattle.std.proofs.lemmas.Bool.{and_parts}
use Rattle.std.proofs.lemmas.Bool.Decides.{nat_tests}
use Rattle.ri_base.specs.Text.{is_docno, is_docno_byte, is_name, is_name_byte, is_term, starts_with_letter}

at_most : (a b : ℕ) → nat_le a b ≡ true → a ≤ b
at_most a b h = grind (arith, nat_tests)

pub short_docno : (x : List ℕ) → IsTrue (is_docno x) → length x < 256
short_docno x h = omega (arith, at_most (length x) 255 (and_parts (nat_le 1 (length x)) (nat_le (length x) 255) (and_parts (nat_le 1 (length x) && nat_le (length x) 255) (list_all is_docno_byte x) h).0).1)

pub short_term : (x : List ℕ) → IsTrue (is_term x) → length x < 256
short_term x h = omega (arith, at_most (length x) 128 (and_parts (nat_le 1 (length x)) (nat_le (length x) 128) h).1)

pub short_name : (x : List ℕ) → IsTrue (is_name x) → length x < 256
short_name x h = omega (arith, at_most (length x) 32 (and_parts (starts_with_letter x) (nat_le (length x) 32) (and_parts (starts_with_letter x && nat_le (length x) 32) (list_all is_name_byte x) h).0).1)
