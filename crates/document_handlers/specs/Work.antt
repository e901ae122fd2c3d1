-- What a command does with the documents of its input, one behind the other.
use Rattle.std.specs.Prelude.{List, [], ◌∷◌, fold, Option, None, Some, Result, Ok, Err, ◌++◌}
use Rattle.ri_base.specs.Documents.{Document}
use Rattle.ri_base.specs.Expression.{ExprTree}
use Rattle.command_pieces.specs.Pieces.{pieces_in_turn}
use Rattle.command_pieces.specs.Written.{Plain, told_piece}
use Rattle.refusals.specs.Lines.{refusal_piece}
use Rattle.refusals.specs.declared.refusal.Refusal.TheVariants as refusal
use Rattle.holdings.specs.declared.limits.Limits.{Limits}
use Rattle.repository.specs.Stands.{Collection}
use Rattle.store_ends.specs.Files.{Files}
use Rattle.tokens.specs.Content.{content}
use Rattle.tokens.specs.declared.document.TokenRefusal.{TokenRefusal}
use Rattle.trec_reader.specs.Read.{Found}
use Rattle.trec_reader.specs.declared.document.RawDoc.{RawDoc}
use Rattle.trec_reader.specs.declared.refusal.TrecRefusal.{TrecRefusal}
use Rattle.document_handlers.specs.Addition.{added, addition, collection_with}
use Rattle.document_handlers.specs.Scan.{document_lines}

-- It scans each document for an expression, or adds it to the collection that a repository reads as with these files, within limits.
pub data Work : Type 0 where
  scanning : ExprTree → Work
  adding : Option Files → Limits → Collection → Work

-- the lines of a document that was read, or of its refusal
abbrev pub scanned : ExprTree → Result Document TokenRefusal → Plain
scanned x (Ok d) = told_piece (document_lines x d)
scanned x (Err why) = refusal_piece (refusal.Document why)

-- what is written of a document
unfoldable pub replies : Work → RawDoc → List Plain
replies (scanning x) d = scanned x (content d) ∷ []
replies (adding told limits c) d = added (addition limits c (content d)) ∷ []

-- how the work goes on behind a document
unfoldable pub behind : Work → RawDoc → Work
behind (scanning x) d = scanning x
behind (adding told limits c) d = adding told limits (collection_with c (addition limits c (content d)))

-- what is written of documents, one behind the other
unfoldable pub document_pieces : Work → List RawDoc → List Plain
document_pieces work docs = pieces_in_turn behind replies work docs

unfoldable pub behind_all : Work → List RawDoc → Work
behind_all work docs = fold behind work docs

-- the line of what stands where a document must stand
abbrev pub refusal_pieces : Option TrecRefusal → List Plain
refusal_pieces None = []
refusal_pieces (Some why) = refusal_piece (refusal.Input why) ∷ []

-- what is written of an input: of its documents, and last of the refusal at which it ends, if one ends it
abbrev pub input_pieces : Work → Found → List Plain
input_pieces work found = document_pieces work found.0 ++ refusal_pieces found.1

abbrev pub pieces_in : Option Plain → List Plain
pieces_in None = []
pieces_in (Some piece) = piece ∷ []
