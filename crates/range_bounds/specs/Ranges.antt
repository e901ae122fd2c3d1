-- What is counted of the documents of a range of 64 ids together.
use Rattle.std.specs.Prelude.{ℕ, ◌*◌, max, min, nat_eq, List, drop, filter, fold, length, map, take}
use Rattle.std.specs.Set.{distinct_count}
use Rattle.std.specs.Str.{bytes_eq}
use Rattle.ri_base.specs.Documents.{Document, Field}
use Rattle.ri_base.specs.Places.{places}
use Rattle.ri_base.specs.declared.limits.TheConstants.{MAX_DOC_TOKENS}

-- the documents of a range: 64 of them, or in the last range as many as are left
abbrev pub range_documents : List Document → ℕ → List Document
range_documents docs range = take 64 (drop (64 * range) docs)

-- the greatest of these numbers, 0 where there is none
abbrev pub greatest : List ℕ → ℕ
greatest numbers = fold (λ a b. max a b) 0 numbers

-- the tokens of the shortest document
abbrev pub least_length : List Document → ℕ
least_length docs = fold (λ a b. min a b) MAX_DOC_TOKENS (map (λ d. length d.tokens) docs)

-- how many places a term has at most in one document
abbrev pub most_places : List Document → List ℕ → ℕ
most_places docs term = greatest (map (λ d. length (places term d)) docs)

-- where the fields of a name begin, a begin for each field
abbrev pub field_begins : List ℕ → List Field → List ℕ
field_begins name fields = map (λ f. f.begin) (filter (λ f. bytes_eq f.name name) fields)

-- at how many tokens fields of a name begin at most in one document
abbrev pub most_begins : List Document → List ℕ → ℕ
most_begins docs name = greatest (map (λ d. distinct_count nat_eq (field_begins name d.fields)) docs)
