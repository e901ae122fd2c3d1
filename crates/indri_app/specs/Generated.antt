-- What `gen` does: a new repository is made, a generated collection is made in it and asked, and what is shown then is written.
use Rattle.std.specs.Prelude.{◌≡◌, ℕ, false, List, [], ◌∷◌, ◌++◌, Option, Some, map, option_map}
use Rattle.command_pieces.specs.Pieces.{Piece}
use Rattle.command_pieces.specs.Written.{told_piece, with_flush, without_flush}
use Rattle.command_words.specs.declared.words.TheConstants.{DEFAULT_MU}
use Rattle.smoothing.specs.declared.rule.RuleKind.TheVariants.{Dirichlet}
use Rattle.holdings.specs.declared.limits.Limits.{Limits}
use Rattle.repository.specs.RealLimits.{AreReal}
use Rattle.repository.specs.Stands.{Collection, empty_collection}
use Rattle.generated_events.specs.Events.{last_event, quiet_events}
use Rattle.script_reader.specs.declared.item.Item.{Item}
use Rattle.script_reader.specs.declared.item.Item.TheVariants.{Event}
use Rattle.desk.specs.State.{State}
use Rattle.indri_app.specs.GeneratedTexts.{gen_text}
use Rattle.indri_app.specs.Items.{pieces_of, state_behind_all}
use Rattle.indri_app.specs.Orders.{IsTrueItem}
use Rattle.indri_app.specs.Sessions.{begun}

-- a piece of a command that makes a repository: the files are as they were at entry, or stand for a collection
abbrev pub MakingPiece : Type 0
MakingPiece = Piece (Option Collection)

-- the repository is made, and nothing is written
abbrev pub created : MakingPiece
created = with_flush (Some empty_collection) (told_piece [])

-- An item of a session of which nothing is written. Behind a flush point the files stand for its collection.
abbrev pub silent : Piece Collection → MakingPiece
silent p = record { text = []; is_refusal = false; flushes = option_map Some p.flushes }

-- the items of a session that makes n documents and asks them, but for the last, which shows the results
abbrev pub gen_items : ℕ → List Item
gen_items n = map Event (quiet_events n)

-- The session begins in a new repository. The smoothing is that of a query whose words name none.
abbrev pub new_state : Limits → State
new_state limits = begun limits (Dirichlet DEFAULT_MU) empty_collection

-- the state in which the results are shown
abbrev pub made_state : ℕ → Limits → State
made_state n limits = state_behind_all (new_state limits) (gen_items n)

-- all that comes before anything is written
abbrev pub silent_pieces : ℕ → Limits → List MakingPiece
silent_pieces n limits = created ∷ map silent (pieces_of (new_state limits) (gen_items n))

abbrev pub gen_pieces : ℕ → Limits → List MakingPiece
gen_pieces n limits = silent_pieces n limits ++ without_flush (told_piece (gen_text n (made_state n limits))) ∷ []

-- these are all pieces of `gen`, within the limits of every repository
abbrev pub AreGenPieces : ℕ → List MakingPiece → Type 0
AreGenPieces n pieces = (limits : Limits) × AreReal limits × (pieces ≡ gen_pieces n limits)

-- the results are shown in an order that is true of the beliefs behind them
abbrev pub IsInOrder : ℕ → Type 0
IsInOrder n = (limits : Limits) × AreReal limits × IsTrueItem (made_state n limits) (Event last_event)
