-- What an index is seen as, and what it keeps.
use Rattle.std.specs.Prelude.{◌≡◌, ◌≤◌, ℕ, List, length}
use Rattle.std.specs.List.{All}
use Rattle.std.specs.Set.{is_member}
use Rattle.std.specs.Str.{bytes_eq}
use Rattle.ri_base.specs.Collection.{field_names, token_count}
use Rattle.ri_base.specs.Documents.{Document, IsDocument}
use Rattle.ri_base.specs.Inversion.{AreNumbers, documents_of}
use Rattle.ri_base.specs.Vocabulary.{Occurs}
use Rattle.ri_base.specs.declared.held.Held.{Held}
use Rattle.ri_base.specs.declared.limits.TheConstants.{MAX_HELD_TOKENS, MAX_PART_DOCS}

-- the documents that were added, in order, and the most of them that there is room for
pub record Index : Type 0 where
  pub most : ℕ
  pub documents : List Document

-- the terms and names are those of the documents, and there is no more of anything than there is room for
pub record AreKept (most held : ℕ) (terms names : List (List ℕ)) (docs : List Held) : Type 0 where
  pub within : length docs ≤ most
  pub most_small : most ≤ MAX_PART_DOCS
  pub counted : held ≡ token_count (documents_of terms docs)
  pub documents : All (λ d. IsDocument d.tokens d.fields) (documents_of terms docs)
  pub numbers : AreNumbers (length terms) docs
  pub fits : token_count (documents_of terms docs) ≤ MAX_HELD_TOKENS
  pub few : length terms ≤ token_count (documents_of terms docs)
  pub used : All (λ t. Occurs t (documents_of terms docs)) terms
  pub named : (q : List ℕ) → is_member bytes_eq names q ≡ is_member bytes_eq (field_names (documents_of terms docs)) q
