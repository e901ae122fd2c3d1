-- The form of a document of TREC text: which bytes stand behind which. No reading is told here.
use Rattle.std.specs.Prelude.{◌≡◌, ◌≤◌, ◌+◌, ℕ, Bool, true, false, not, if◌then◌else◌, List, [], ◌∷◌, ◌++◌, length, take, map, codes, IsTrue}
use Rattle.std.specs.List.{list_all, position_or_len}
use Rattle.ri_base.specs.Ascii.{is_letter, is_space, lower}
use Rattle.ri_base.specs.Text.{is_docno}
use Rattle.ri_base.specs.declared.limits.TheConstants.{MAX_DOC_BYTES}
use Rattle.trec_reader.specs.Marks.{ends_name, is_angle}
use Rattle.trec_reader.specs.Pieces.{pieces}
use Rattle.trec_reader.specs.declared.document.RawDoc.{RawDoc}

-- white space, or nothing
abbrev pub AreSpaces : List ℕ → Type 0
AreSpaces bytes = IsTrue (list_all is_space bytes)

abbrev pub begins_with_letter : List ℕ → Bool
begins_with_letter [] = false
begins_with_letter (b ∷ bytes) = is_letter b

-- the name of a tag: the run at the front of its inner bytes up to the first white space or '/', in lower case
abbrev pub inner_name : List ℕ → List ℕ
inner_name inner = map lower (take (position_or_len ends_name inner) inner)

-- These bytes are a tag of this name: '<', or '</' in an end tag; a letter and bytes other than '<' and '>'; and '>'.
pub record IsTag (is_end : Bool) (name bytes : List ℕ) : Type 0 where
  pub inner : List ℕ
  pub whole : bytes ≡ (if is_end then codes "</" else codes "<") ++ inner ++ codes ">"
  pub lettered : IsTrue (begins_with_letter inner)
  pub no_angle : IsTrue (list_all (λ b. not (is_angle b)) inner)
  pub named : inner_name inner ≡ name

-- no end tag `doc` stands in these bytes
abbrev pub HasNoEnd : List ℕ → Type 0
HasNoEnd bytes = (before tag behind : List ℕ) → bytes ≡ before ++ tag ++ behind → IsTag true (codes "doc") tag → ⊥

-- These bytes are a document: a start tag `doc`; white space; a start tag `docno`; white space; the docno; white space;
-- an end tag `docno`; a text in which no end tag `doc` stands; an end tag `doc`.
pub record IsDocumentText (docno text bytes : List ℕ) : Type 0 where
  pub doc_tag : List ℕ
  pub space_before_tag : List ℕ
  pub docno_tag : List ℕ
  pub space_before : List ℕ
  pub space_behind : List ℕ
  pub docno_end : List ℕ
  pub doc_end : List ℕ
  pub whole : bytes ≡ doc_tag ++ space_before_tag ++ docno_tag ++ space_before ++ docno ++ space_behind ++ docno_end ++ text ++ doc_end
  pub begins : IsTag false (codes "doc") doc_tag
  pub are_spaces_before_tag : AreSpaces space_before_tag
  pub begins_docno : IsTag false (codes "docno") docno_tag
  pub are_spaces_before : AreSpaces space_before
  pub is_docno : IsTrue (is_docno docno)
  pub are_spaces_behind : AreSpaces space_behind
  pub ends_docno : IsTag true (codes "docno") docno_end
  pub no_end : HasNoEnd text
  pub ends : IsTag true (codes "doc") doc_end

-- A document of so many bytes stands at the front of these.
pub record StartsWithDocument (docno text : List ℕ) (n : ℕ) (bytes : List ℕ) : Type 0 where
  pub whole : List ℕ
  pub rest : List ℕ
  pub parts : bytes ≡ whole ++ rest
  pub long : length whole ≡ n
  pub is_document : IsDocumentText docno text whole

-- White space, this document of at most as many bytes as a document may have, and the rest. So many bytes stood before these.
pub record IsEntry (offset : ℕ) (bytes : List ℕ) (d : RawDoc) (rest : List ℕ) : Type 0 where
  pub space : List ℕ
  pub whole : List ℕ
  pub text : List ℕ
  pub parts : bytes ≡ space ++ whole ++ rest
  pub spaces : AreSpaces space
  pub is_document : IsDocumentText d.docno text whole
  pub short : length whole ≤ MAX_DOC_BYTES
  pub offset_is : d.offset ≡ offset + length space
  pub pieces_are : d.pieces ≡ pieces text
