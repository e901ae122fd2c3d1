-- What the words of the command line ask for, and the pieces of that command on a collection.
use Rattle.std.specs.Prelude.{◌≡◌, ◌⊎◌, ℕ, List, [], ◌∷◌, codes, Option, None, Some, Result, Ok, Err, IfSome}
use Rattle.command_words.specs.Table.{Asks, Question, add, create, delete, explain, gen, merge, prior, query, scan, session}
use Rattle.ri_base.specs.Expression.{ExprTree}
use Rattle.ri_base.specs.Query.{QueryTree}
use Rattle.smoothing.specs.declared.rule.RuleKind.TheVariants.{Dirichlet}
use Rattle.store_ends.specs.Files.{Files}
use Rattle.trec_reader.specs.Read.{read}
use Rattle.query_reader.specs.QueryText.{expr_text, query_text}
use Rattle.query_reader.specs.declared.fault.QueryKind.{QueryKind}
use Rattle.query_check.specs.Check.{CheckedTree, checks}
use Rattle.query_check.specs.declared.fault.CheckFault.{CheckFault}
use Rattle.query_refusals.specs.Lines.{refusal_piece}
use Rattle.query_refusals.specs.declared.refusal.QueryRefusal.{QueryRefusal}
use Rattle.query_refusals.specs.declared.refusal.QueryRefusal.TheVariants as refusal
use Rattle.command_pieces.specs.Pieces.{Piece}
use Rattle.command_pieces.specs.Written.{Plain, told_piece, unflushed}
use Rattle.command_pieces.specs.declared.command_fault.CommandFault.{CommandFault}
use Rattle.command_pieces.specs.declared.command_fault.CommandFault.TheVariants as fault
use Rattle.document_handlers.specs.Work.{Work, adding, behind_all, input_pieces, scanning}
use Rattle.holdings.specs.declared.limits.Limits.{Limits}
use Rattle.repository.specs.RealLimits.{AreReal}
use Rattle.repository.specs.Stands.{Collection}
use Rattle.collection_commands.specs.Creation.{create_pieces}
use Rattle.collection_commands.specs.Flushing.{delete_pieces, then_flushed}
use Rattle.collection_commands.specs.Merging.{merge_pieces}
use Rattle.collection_commands.specs.PriorSetting.{ArePriorPieces, name_refusal}
use Rattle.script_reader.specs.Items.{items}
use Rattle.indri_app.specs.Generated.{AreGenPieces, IsInOrder, MakingPiece}
use Rattle.indri_app.specs.Orders.{AreTrue}
use Rattle.indri_app.specs.Sessions.{begun, session_pieces}
use Rattle.desk.specs.Answer.{IsAnswerText}
use Rattle.desk.specs.Priors.{names_with, priors_with}
use Rattle.desk.specs.Shown.{Shown, explanation, shown_for}

-- ---- texts

-- the refusal of a text that isn't read
abbrev pub expr_refusal : Result ExprTree (QueryKind × ℕ) → Option QueryRefusal
expr_refusal (Ok x) = None
expr_refusal (Err fault) = Some (refusal.Text fault.0 fault.1)

abbrev pub check_refusal : Result CheckedTree CheckFault → Option QueryRefusal
check_refusal (Ok q) = None
check_refusal (Err fault) = Some (refusal.Check fault)

abbrev pub query_refusal : List (List ℕ) → Result QueryTree (QueryKind × ℕ) → Option QueryRefusal
query_refusal names (Ok q) = check_refusal (checks q names)
query_refusal names (Err fault) = Some (refusal.Text fault.0 fault.1)

-- the refusal of the command's text, where the priors have these names
abbrev pub text_refusal : List (List ℕ) → Asks → Option QueryRefusal
text_refusal names (scan text) = expr_refusal (expr_text text)
text_refusal names create = None
text_refusal names add = None
text_refusal names delete = None
text_refusal names merge = None
text_refusal names (prior name) = None
text_refusal names (session mu) = None
text_refusal names (gen count) = None
text_refusal names (query question) = query_refusal names (query_text question.text)
text_refusal names (explain rank question) = query_refusal names (query_text question.text)

-- a text is read as this query, which has no fault where the priors have these names
pub record IsQuery (names : List (List ℕ)) (text : List ℕ) (q : CheckedTree) : Type 0 where
  pub tree : QueryTree
  pub read_as : query_text text ≡ Ok tree
  pub checked : checks tree names ≡ Ok q

-- ---- pieces

-- the collection behind the documents that are added
abbrev pub collection_in : Collection → Work → Collection
collection_in c (scanning x) = c
collection_in c (adding told limits d) = d

-- all that `add` does with an input, within limits
abbrev pub add_pieces : Option Files → Limits → Collection → List ℕ → List (Piece Collection)
add_pieces told limits c bytes = then_flushed (input_pieces (adding told limits c) (read bytes)) (collection_in c (behind_all (adding told limits c) (read bytes).0))

-- the one piece of an answer; none is the refusal of a rank above the number of results
abbrev pub answer_piece : Option (List ℕ) → Plain
answer_piece None = refusal_piece (refusal.NoSuchRank (codes "q"))
answer_piece (Some text) = told_piece text

-- These are all pieces of a query: its answer over the live documents.
abbrev pub AreAnswer : Collection → Question → Shown → List (Piece Collection) → Type 0
AreAnswer c question shown pieces =
    (q : CheckedTree) × IsQuery (names_with c.priors) question.text q × ((answer : Option (List ℕ))
    × IsAnswerText (Dirichlet question.mu) (priors_with c.priors) (names_with c.priors) shown q c.live answer × (pieces ≡ unflushed (answer_piece answer ∷ [])))

-- These are all pieces of a command on a collection, for which the files stand, with this input. There is none of `create` and `gen`,
-- which aren't done where there is a manifest.
abbrev pub ArePieces : Option Files → Asks → Collection → List ℕ → List (Piece Collection) → Type 0
ArePieces told (scan text) c bytes pieces = (x : ExprTree) × (expr_text text ≡ Ok x) × (pieces ≡ unflushed (input_pieces (scanning x) (read bytes)))
ArePieces told create c bytes pieces = ⊥
ArePieces told add c bytes pieces = (limits : Limits) × AreReal limits × (pieces ≡ add_pieces told limits c bytes)
ArePieces told delete c bytes pieces = pieces ≡ delete_pieces c bytes
ArePieces told merge c bytes pieces = pieces ≡ merge_pieces c
ArePieces told (prior name) c bytes pieces = ArePriorPieces (name_refusal c name) c name bytes pieces
ArePieces told (session mu) c bytes pieces = (limits : Limits) × AreReal limits × (pieces ≡ session_pieces limits (Dirichlet mu) c bytes)
ArePieces told (gen count) c bytes pieces = ⊥
ArePieces told (query question) c bytes pieces = AreAnswer c question (shown_for question) pieces
ArePieces told (explain rank question) c bytes pieces = AreAnswer c question (explanation rank) pieces

-- What a session shows of its input stands in an order that is true of the beliefs behind it.
abbrev pub ShowsInOrder : Asks → Collection → Option (List ℕ) → Type 0
ShowsInOrder (scan text) c left = Unit {0}
ShowsInOrder create c left = Unit {0}
ShowsInOrder add c left = Unit {0}
ShowsInOrder delete c left = Unit {0}
ShowsInOrder merge c left = Unit {0}
ShowsInOrder (prior name) c left = Unit {0}
ShowsInOrder (session mu) c left = IfSome left (λ bytes. (limits : Limits) × AreReal limits × AreTrue (begun limits (Dirichlet mu) c) (items bytes))
ShowsInOrder (gen count) c left = Unit {0}
ShowsInOrder (query question) c left = Unit {0}
ShowsInOrder (explain rank question) c left = Unit {0}

-- These are all pieces of a command that makes a repository, where there is none.
abbrev pub AreMakingPieces : Asks → List MakingPiece → Type 0
AreMakingPieces (scan text) pieces = ⊥
AreMakingPieces create pieces = pieces ≡ create_pieces
AreMakingPieces add pieces = ⊥
AreMakingPieces delete pieces = ⊥
AreMakingPieces merge pieces = ⊥
AreMakingPieces (prior name) pieces = ⊥
AreMakingPieces (session mu) pieces = ⊥
AreMakingPieces (gen count) pieces = AreGenPieces count pieces
AreMakingPieces (query question) pieces = ⊥
AreMakingPieces (explain rank question) pieces = ⊥

-- What it shows stands in an order that is true of the beliefs behind it.
abbrev pub MakesInOrder : Asks → Type 0
MakesInOrder (gen count) = IsInOrder count
MakesInOrder asks = Unit {0}

-- These are the pieces of a command on a collection, or none where they can't be told yet.
abbrev pub AreBegun : Option Files → Asks → Collection → List ℕ → List (Piece Collection) → Type 0
AreBegun told asks c bytes pieces = (pieces ≡ []) ⊎ ArePieces told asks c bytes pieces

-- These are they of a command that is broken off. Where the sink failed they can be told.
abbrev pub AreBegunBy : CommandFault → Option Files → Asks → Collection → List ℕ → List (Piece Collection) → Type 0
AreBegunBy fault.Write told asks c bytes pieces = ArePieces told asks c bytes pieces
AreBegunBy why told asks c bytes pieces = AreBegun told asks c bytes pieces

-- ---- which commands look at a manifest

-- the command works on a repository that is there
abbrev pub NeedsRepository : Asks → Type 0
NeedsRepository (scan text) = ⊥
NeedsRepository create = ⊥
NeedsRepository add = Unit {0}
NeedsRepository delete = Unit {0}
NeedsRepository merge = Unit {0}
NeedsRepository (prior name) = Unit {0}
NeedsRepository (session mu) = Unit {0}
NeedsRepository (gen count) = ⊥
NeedsRepository (query question) = Unit {0}
NeedsRepository (explain rank question) = Unit {0}

-- it makes a repository where there is none
abbrev pub MakesRepository : Asks → Type 0
MakesRepository (scan text) = ⊥
MakesRepository create = Unit {0}
MakesRepository add = ⊥
MakesRepository delete = ⊥
MakesRepository merge = ⊥
MakesRepository (prior name) = ⊥
MakesRepository (session mu) = ⊥
MakesRepository (gen count) = Unit {0}
MakesRepository (query question) = ⊥
MakesRepository (explain rank question) = ⊥

-- it reads the files of the priors
abbrev pub ReadsPriors : Asks → Type 0
ReadsPriors (scan text) = ⊥
ReadsPriors create = ⊥
ReadsPriors add = ⊥
ReadsPriors delete = ⊥
ReadsPriors merge = ⊥
ReadsPriors (prior name) = ⊥
ReadsPriors (session mu) = Unit {0}
ReadsPriors (gen count) = ⊥
ReadsPriors (query question) = Unit {0}
ReadsPriors (explain rank question) = Unit {0}

-- it reads blocks of the documents that are there
abbrev pub ReadsBlocks : Asks → Type 0
ReadsBlocks (scan text) = ⊥
ReadsBlocks create = ⊥
ReadsBlocks add = ⊥
ReadsBlocks delete = ⊥
ReadsBlocks merge = Unit {0}
ReadsBlocks (prior name) = ⊥
ReadsBlocks (session mu) = Unit {0}
ReadsBlocks (gen count) = ⊥
ReadsBlocks (query question) = Unit {0}
ReadsBlocks (explain rank question) = Unit {0}

-- what is written where the words are no command
unfoldable pub usage_line : List ℕ
usage_line = codes "usage: indri DIR scan|create|add|delete|merge|prior|query|explain|session|gen\n"

-- a question with this text and this mu, of whose ranking this is shown
abbrev pub IsAskedBy : Asks → List ℕ → ℕ → Shown → Type 0
IsAskedBy (scan t) text mu shown = ⊥
IsAskedBy create text mu shown = ⊥
IsAskedBy add text mu shown = ⊥
IsAskedBy delete text mu shown = ⊥
IsAskedBy merge text mu shown = ⊥
IsAskedBy (prior name) text mu shown = ⊥
IsAskedBy (session m) text mu shown = ⊥
IsAskedBy (gen count) text mu shown = ⊥
IsAskedBy (query question) text mu shown = (question.text ≡ text) × (question.mu ≡ mu) × (shown_for question ≡ shown)
IsAskedBy (explain rank question) text mu shown = (question.text ≡ text) × (question.mu ≡ mu) × (explanation rank ≡ shown)
