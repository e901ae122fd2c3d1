-- Documents as contracts see them: an identifier, terms in their places, and fields.
use Rattle.std.specs.Prelude.{◌≡◌, ◌<◌, ◌≤◌, ℕ, List, length, ◌⊎◌}
use Rattle.std.specs.Cmp.Lexicographic.{slice_cmp}
use Rattle.std.specs.List.{All, AllPairs}
use Rattle.std.specs.Ordering.{nat_cmp}
use Rattle.std.specs.declared.cmp.Ordering.TheVariants.{Less}
use Rattle.ri_base.specs.declared.limits.TheConstants.{MAX_DOC_FIELDS, MAX_DOC_TOKENS}

-- a field of a document: the tokens from begin on up to end, that one not among them
pub record Field : Type 0 where
  pub name : List ℕ
  pub begin : ℕ
  pub end : ℕ

pub record Document : Type 0 where
  pub docno : List ℕ
  pub tokens : List (List ℕ)
  pub fields : List Field

-- one field stands before another: by begin, then end, then the bytes of the name
abbrev pub IsBefore : Field → Field → Type 0
IsBefore a b = (a.begin < b.begin) ⊎ (a.begin ≡ b.begin) × ((a.end < b.end) ⊎ (a.end ≡ b.end) × (slice_cmp nat_cmp a.name b.name ≡ Less))

-- the fields of a document of so many tokens: each has a token, lies within the document, and stands before all that
-- follow it, so no two are equal
pub record AreFields (tokens : ℕ) (fields : List Field) : Type 0 where
  pub few : length fields ≤ MAX_DOC_FIELDS
  pub some : All (λ f. f.begin < f.end) fields
  pub within : All (λ f. f.end ≤ tokens) fields
  pub in_order : AllPairs IsBefore fields

-- what each document keeps
pub record IsDocument (tokens : List (List ℕ)) (fields : List Field) : Type 0 where
  pub short : length tokens ≤ MAX_DOC_TOKENS
  pub sound : AreFields (length tokens) fields
