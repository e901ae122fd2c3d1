-- What is scored of a document: the document as a whole, its fields of a name, or passages. After the language
-- reference of the field: `#combine[f]` ranks fields, `#combine[passageW:I]` passages of W tokens, one at every I.
use Rattle.std.specs.Prelude.{◌≡◌, ◌<◌, ◌⊎◌, ℕ, ◌+◌, ◌*◌, nat_lt, min, if◌then◌else◌, List, [], ◌∷◌, filter, map}
use Rattle.std.specs.List.{AllPairs, range_with_len}
use Rattle.std.specs.Str.{bytes_eq}
use Rattle.ri_base.specs.Documents.{Field}
use Rattle.ri_base.specs.Pair.{Pair}
use Rattle.ri_base.specs.declared.query.Range.{Range}
use Rattle.ri_base.specs.declared.query.Range.TheVariants.{Whole, Field as Fields, Passages}

-- the tokens from begin on up to end, that one not among them
abbrev pub window : ℕ → ℕ → Pair
window begin end = record { begin = begin; end = end }

-- the passage of so many tokens that begins there, which ends at the end of the document at the latest
abbrev pub passage : ℕ → ℕ → ℕ → Pair
passage tokens width begin = window begin (min (begin + width) tokens)

-- the numbers of the passages that begin within so many tokens, one at every so many
abbrev pub passage_numbers : ℕ → ℕ → List ℕ
passage_numbers tokens every = filter (λ i. nat_lt (i * every) tokens) (range_with_len 0 tokens)

-- The windows of a document of so many tokens with these fields. No two fields of a document are equal, so each window
-- stands once.
abbrev pub windows : Range → ℕ → List Field → List Pair
windows Whole tokens fields = if nat_lt 0 tokens then window 0 tokens ∷ [] else []
windows (Fields f) tokens fields = map (λ field. window field.begin field.end) (filter (λ field. bytes_eq field.name f) fields)
windows (Passages width every) tokens fields =
    map (λ i. passage tokens width (i * every)) (passage_numbers tokens every)

-- one window stands before another: by begin, then end
abbrev pub IsEarlier : Pair → Pair → Type 0
IsEarlier v w = (v.begin < w.begin) ⊎ (v.begin ≡ w.begin) × (v.end < w.end)

-- windows in order, each once
abbrev pub AreRising : List Pair → Type 0
AreRising ws = AllPairs IsEarlier ws
