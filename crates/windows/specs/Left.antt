-- The windows that are left of a document.
use Rattle.std.specs.Prelude.{◌≤◌, ℕ, ◌*◌, ◌-◌, nat_lt, List, [], filter, map, ⊤}
use Rattle.std.specs.List.{range_with_len}
use Rattle.ri_base.specs.Documents.{Field}
use Rattle.ri_base.specs.Pair.{Pair}
use Rattle.ri_base.specs.declared.query.Range.TheVariants as range
use Rattle.ri_base.specs.declared.limits.TheConstants.{MAX_DOC_TOKENS, MAX_WIDTH}
use Rattle.windows.specs.Windows.{passage, windows}
use Rattle.windows.specs.declared.contexts.Left.{Left}
use Rattle.windows.specs.declared.contexts.Left.TheVariants.{Whole, Fields, Passages}

-- the document as a whole, where it has so many tokens
abbrev pub whole_left : ℕ → List Pair
whole_left tokens = windows range.Whole tokens []

-- the fields of a name among these
abbrev pub fields_named : List ℕ → List Field → List Pair
fields_named name fields = windows (range.Field name) 0 fields

-- the passages from a number on
abbrev pub passages_from : ℕ → ℕ → ℕ → ℕ → List Pair
passages_from number tokens width every =
    map (λ i. passage tokens width (i * every)) (filter (λ i. nat_lt (i * every) tokens) (range_with_len number (tokens - number)))

abbrev pub windows_left : Left → List Pair
windows_left (Whole tokens) = whole_left tokens
windows_left (Fields name spans) = fields_named name.now spans.now
windows_left (Passages number tokens width every) = passages_from number tokens width every

-- numbers in their range
pub record AreNumbers (number tokens width every : ℕ) : Type 0 where
  pub inside : number ≤ tokens
  pub few : tokens ≤ MAX_DOC_TOKENS
  pub some : 1 ≤ width
  pub most : width ≤ MAX_WIDTH
  pub apart : 1 ≤ every
  pub widest : every ≤ MAX_WIDTH

abbrev pub IsLeft : Left → Type 0
IsLeft (Whole tokens) = ⊤
IsLeft (Fields name spans) = ⊤
IsLeft (Passages number tokens width every) = AreNumbers number tokens width every
