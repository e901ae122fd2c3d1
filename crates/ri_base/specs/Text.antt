-- What byte strings may be a document's identifier, a term of the index, or the name of a field.
use Rattle.std.specs.Prelude.{ℕ, Bool, false, List, [], ◌∷◌, length, ◌==◌, nat_le, ◌&&◌, ◌||◌, not}
use Rattle.std.specs.List.{list_all}
use Rattle.ri_base.specs.Ascii.{is_lower, is_digit}
use Rattle.ri_base.specs.declared.text.TheConstants.{DOCNO_BYTES, NAME_BYTES, TERM_BYTES}

-- a visible byte of ASCII other than '<'
abbrev pub is_docno_byte : ℕ → Bool
is_docno_byte b = nat_le 33 b && nat_le b 126 && not (b == 60)

-- a document's identifier, as the DOCNO element of TREC text holds it: 1 to 255 such bytes
abbrev pub is_docno : List ℕ → Bool
is_docno bytes = nat_le 1 (length bytes) && nat_le (length bytes) DOCNO_BYTES && list_all is_docno_byte bytes

-- a term of the index: 1 to 128 bytes of any kind
abbrev pub is_term : List ℕ → Bool
is_term bytes = nat_le 1 (length bytes) && nat_le (length bytes) TERM_BYTES

abbrev pub is_name_byte : ℕ → Bool
is_name_byte b = is_lower b || is_digit b

abbrev pub starts_with_letter : List ℕ → Bool
starts_with_letter [] = false
starts_with_letter (b ∷ bytes) = is_lower b

-- the name of a field, as the query language has it: a letter and then letters and digits, in lower case, at most 32
abbrev pub is_name : List ℕ → Bool
is_name bytes = starts_with_letter bytes && nat_le (length bytes) NAME_BYTES && list_all is_name_byte bytes
