-- The documents of a generated collection, by their numbers.
use Rattle.std.specs.Prelude.{ℕ, ◌+◌, ◌%◌, ◌==◌, Bool, not, List, [], ◌∷◌, filter, length, map}
use Rattle.std.specs.Fmt.{decimal}
use Rattle.std.specs.List.{range_with_len}
use Rattle.ri_base.specs.Collection.{token_count}
use Rattle.ri_base.specs.Documents.{Document}

-- g NUMBER
abbrev pub docno_of : ℕ → List ℕ
docno_of i = 103 ∷ decimal i

-- one of the words w0 to w4, which go round
abbrev pub word : ℕ → List ℕ
word n = 119 ∷ (48 + n % 5) ∷ []

-- two to four words, of which the first is that of the number
abbrev pub words_of : ℕ → List (List ℕ)
words_of i = map (λ j. word (i + j)) (range_with_len 0 (2 + i % 3))

abbrev pub generated : ℕ → Document
generated i = record { docno = docno_of i; tokens = words_of i; fields = [] }

-- every third document is deleted again
abbrev pub is_deleted : ℕ → Bool
is_deleted i = i % 3 == 1

-- the numbers of the first n documents that are deleted, and of those that stay
abbrev pub deleted : ℕ → List ℕ
deleted n = filter is_deleted (range_with_len 0 n)

abbrev pub kept : ℕ → List ℕ
kept n = filter (λ i. not (is_deleted i)) (range_with_len 0 n)

-- the documents that stay
abbrev pub kept_documents : ℕ → List Document
kept_documents n = map generated (kept n)

abbrev pub live_count : ℕ → ℕ
live_count n = length (kept_documents n)

abbrev pub live_tokens : ℕ → ℕ
live_tokens n = token_count (kept_documents n)
