-- The words that a text is searched by.
use Rattle.std.specs.Prelude.{ℕ, List, map, filter, chars, encode_utf8_all}
use Rattle.ri_base.specs.Text.{is_term}
use Rattle.bstr.specs.Utf8.{lossy_chars}
use Rattle.caseless.specs.Caseless.{default_case_fold}
use Rattle.unicode_segmentation.specs.Word.{words}

-- a word with full case folding, as the Unicode standard defines caseless matching
abbrev pub folded : List ℕ → List ℕ
folded word = encode_utf8_all (default_case_fold (chars word))

-- the words folded, and of these the ones that may be terms, in order
abbrev pub terms_among : List (List ℕ) → List (List ℕ)
terms_among pieces = filter is_term (map folded pieces)

-- the terms of a text: its words by the word boundaries of UAX #29, folded, where these may be terms
abbrev pub text_terms : List ℕ → List (List ℕ)
text_terms text = terms_among (words text)

-- bytes as text: in place of what isn't UTF-8 stands U+FFFD, one for each maximal piece
abbrev pub lossy_text : List ℕ → List ℕ
lossy_text bytes = encode_utf8_all (lossy_chars bytes)

-- the terms of bytes
unfoldable pub byte_terms : List ℕ → List (List ℕ)
byte_terms bytes = text_terms (lossy_text bytes)
