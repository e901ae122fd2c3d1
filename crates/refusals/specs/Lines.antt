-- The lines of refusals. What is no refusal has no line.
use Rattle.std.specs.Prelude.{ℕ, List, [], ◌∷◌, ◌++◌, codes}
use Rattle.std.specs.Fmt.{decimal}
use Rattle.command_pieces.specs.Written.{Plain, refused_piece}
use Rattle.refusals.specs.declared.refusal.CollectionKind.{CollectionKind}
use Rattle.refusals.specs.declared.refusal.CollectionKind.TheVariants as collection
use Rattle.refusals.specs.declared.refusal.Refusal.{Refusal}
use Rattle.refusals.specs.declared.refusal.Refusal.TheVariants as refusal
use Rattle.tokens.specs.declared.document.TokenRefusal.{TokenRefusal}
use Rattle.tokens.specs.declared.document.TokenRefusal.TheVariants as tokens
use Rattle.trec_reader.specs.declared.refusal.TrecRefusal.{TrecRefusal}
use Rattle.trec_reader.specs.declared.refusal.TrecRefusal.TheVariants as input

-- refused KIND NAME
abbrev pub named_line : List ℕ → List ℕ → List ℕ
named_line kind name = codes "refused " ++ kind ++ 32 ∷ name ++ 10 ∷ []

-- refused KIND PLACE
abbrev pub placed_line : List ℕ → ℕ → List ℕ
placed_line kind place = named_line kind (decimal place)

abbrev pub token_line : TokenRefusal → List ℕ
token_line (tokens.TooManyTokens docno) = named_line (codes "TooManyTokens") docno
token_line (tokens.TooManyFields docno) = named_line (codes "TooManyFields") docno
token_line tokens.Memory = []

abbrev pub collection_name : CollectionKind → List ℕ
collection_name collection.Repeated = codes "Repeated"
collection_name collection.CollectionFull = codes "CollectionFull"

abbrev pub input_line : TrecRefusal → List ℕ
input_line (input.NoDocno at) = placed_line (codes "NoDocno") at
input_line (input.DocnoEmpty at) = placed_line (codes "DocnoEmpty") at
input_line (input.DocnoBad at) = placed_line (codes "DocnoBad") at
input_line (input.DocnoLong at) = placed_line (codes "DocnoLong") at
input_line (input.DocOpen at) = placed_line (codes "DocOpen") at
input_line (input.NotADoc at) = placed_line (codes "NotADoc") at
input_line (input.DocTooLarge at) = placed_line (codes "DocTooLarge") at
input_line input.Read = []
input_line input.Ended = []
input_line input.Memory = []

-- the line of a refusal: its kind, and the docno, the offset or the name that it is about
unfoldable pub line_of : Refusal → List ℕ
line_of (refusal.Document why) = token_line why
line_of (refusal.Collection kind docno) = named_line (collection_name kind) docno
line_of (refusal.Input why) = input_line why
line_of (refusal.NoSuchDoc docno) = named_line (codes "NoSuchDoc") docno
line_of (refusal.BadEvent place) = placed_line (codes "BadEvent") place
line_of (refusal.LineTooLong place) = placed_line (codes "LineTooLong") place
line_of (refusal.BadRow place) = placed_line (codes "BadRow") place
line_of (refusal.RepeatedRow docno) = named_line (codes "RepeatedRow") docno
line_of refusal.RepeatedRest = named_line (codes "RepeatedRow") (codes "*")
line_of (refusal.TooManyRows place) = placed_line (codes "TooManyRows") place
line_of (refusal.Fixed name) = named_line (codes "Fixed") name
line_of (refusal.PriorsFull name) = named_line (codes "PriorsFull") name

-- the piece of a refusal
abbrev pub refusal_piece : Refusal → Plain
refusal_piece why = refused_piece (line_of why)
