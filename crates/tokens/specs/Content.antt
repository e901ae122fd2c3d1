-- The document that a raw document is read as.
use Rattle.std.specs.Prelude.{◌≡◌, ℕ, nat_le, List, [], length, Result, Ok, Err, if◌then◌else◌}
use Rattle.std.specs.List.{flat_map}
use Rattle.ri_base.specs.Documents.{Document}
use Rattle.trec_reader.specs.declared.document.RawDoc.{RawDoc}
use Rattle.trec_reader.specs.declared.piece.Piece.{Piece}
use Rattle.trec_reader.specs.declared.piece.Piece.TheVariants.{Text, Open, Close, Break}
use Rattle.tokens.specs.Fields.{document_fields}
use Rattle.tokens.specs.Words.{byte_terms}
use Rattle.tokens.specs.declared.document.TokenRefusal.{TokenRefusal}
use Rattle.tokens.specs.declared.document.TokenRefusal.TheVariants.{TooManyTokens, TooManyFields, Memory}
use Rattle.ri_base.specs.declared.limits.TheConstants.{MAX_DOC_FIELDS, MAX_DOC_TOKENS}

-- only text has terms, and words don't run across a piece
abbrev pub piece_terms : Piece → List (List ℕ)
piece_terms (Text text) = byte_terms text
piece_terms (Open name) = []
piece_terms (Close name) = []
piece_terms Break = []

-- the tokens of a document
unfoldable pub document_terms : List Piece → List (List ℕ)
document_terms pieces = flat_map piece_terms pieces

-- the document, or its refusal: too many tokens, else too many fields
unfoldable pub content : RawDoc → Result Document TokenRefusal
content d =
    if nat_le (length (document_terms d.pieces)) MAX_DOC_TOKENS
    then (if nat_le (length (document_fields d.pieces)) MAX_DOC_FIELDS
    then Ok (record { docno = d.docno; tokens = document_terms d.pieces; fields = document_fields d.pieces })
    else Err (TooManyFields d.docno))
    else Err (TooManyTokens d.docno)

-- an answer is that of the definition, unless memory was wanting
abbrev pub Answers : Result Document TokenRefusal → Result Document TokenRefusal → Type 0
Answers (Ok d) is = is ≡ Ok d
Answers (Err (TooManyTokens docno)) is = is ≡ Err (TooManyTokens docno)
Answers (Err (TooManyFields docno)) is = is ≡ Err (TooManyFields docno)
Answers (Err Memory) is = Unit {0}
