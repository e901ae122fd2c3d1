-- The lists of documents that have a segment.
use Rattle.std.specs.Prelude.{◌≤◌, IsTrue, List, length}
use Rattle.std.specs.List.{All}
use Rattle.ri_base.specs.Collection.{name_count, token_count}
use Rattle.ri_base.specs.Documents.{Document, IsDocument}
use Rattle.ri_base.specs.Text.{is_docno, is_name, is_term}
use Rattle.ri_base.specs.declared.limits.TheConstants.{MAX_HELD_TOKENS, MAX_PART_DOCS, MAX_PART_NAMES}

-- a document of which each text has its form
pub record IsFormed (d : Document) : Type 0 where
  pub docno : IsTrue (is_docno d.docno)
  pub terms : All (λ t. IsTrue (is_term t)) d.tokens
  pub names : All (λ f. IsTrue (is_name f.name)) d.fields
  pub sound : IsDocument d.tokens d.fields

-- a document with a docno of its form, and tokens and fields that keep what a document keeps
pub record HasDocno (d : Document) : Type 0 where
  pub docno : IsTrue (is_docno d.docno)
  pub sound : IsDocument d.tokens d.fields

-- documents of their form, and no more of anything than a part of a collection holds
pub record IsPart (docs : List Document) : Type 0 where
  pub few : length docs ≤ MAX_PART_DOCS
  pub short : token_count docs ≤ MAX_HELD_TOKENS
  pub named : name_count docs ≤ MAX_PART_NAMES
  pub formed : All IsFormed docs
