-- What a session does with the items of its script, one behind the other.
use Rattle.std.specs.Prelude.{ℕ, List, [], ◌∷◌, Option, None, Some, codes, unwrap_or, if◌then◌else◌}
use Rattle.command_pieces.specs.Pieces.{Piece}
use Rattle.command_pieces.specs.Written.{Plain, refused_piece}
use Rattle.refusals.specs.Lines.{placed_line, refusal_piece}
use Rattle.refusals.specs.declared.refusal.Refusal.TheVariants.{Document, Input}
use Rattle.repository.specs.Stands.{Collection}
use Rattle.script_reader.specs.declared.item.Item.{Item}
use Rattle.script_reader.specs.declared.item.Item.TheVariants.{Event, Token, Trec, Unread}
use Rattle.script_reader.specs.declared.item.Unread as unread
use Rattle.script_reader.specs.declared.item.Unread.TheVariants.{BadEvent, LineTooLong, ShortAdd}
use Rattle.desk.specs.State.{State, collection_of}
use Rattle.desk.specs.Step.{step}
use Rattle.desk.specs.Told.{Told, is_flush_point}
use Rattle.indri_app.specs.ToldTexts.{told_reply}

abbrev pub unread_name : unread.Unread → List ℕ
unread_name BadEvent = codes "BadEvent"
unread_name LineTooLong = codes "LineTooLong"
unread_name ShortAdd = codes "ShortAdd"

-- it asks for nothing of the desk
abbrev pub IsNoEvent : Item → Type 0
IsNoEvent (Event e) = ⊥
IsNoEvent (Unread kind place) = Unit {0}
IsNoEvent (Trec why) = Unit {0}
IsNoEvent (Token why) = Unit {0}

-- what is written of what is no event
abbrev pub unread_reply : unread.Unread → ℕ → Plain
unread_reply kind place = refused_piece (placed_line (unread_name kind) place)

-- what is written of an item in this state
unfoldable pub item_reply : State → Item → Plain
item_reply s (Event e) = told_reply (step s e).1
item_reply s (Unread kind place) = unread_reply kind place
item_reply s (Trec why) = refusal_piece (Input why)
item_reply s (Token why) = refusal_piece (Document why)

-- the state behind an item; what is no event leaves it
unfoldable pub state_behind : State → Item → State
state_behind s (Event e) = (step s e).0
state_behind s (Unread kind place) = s
state_behind s (Trec why) = s
state_behind s (Token why) = s

-- what the files stand for behind a step, where it is a flush point
abbrev pub step_flushes : State × Told → Option Collection
step_flushes r = if is_flush_point r.1 then Some (collection_of r.0) else None

unfoldable pub item_flushes : State → Item → Option Collection
item_flushes s (Event e) = step_flushes (step s e)
item_flushes s (Unread kind place) = None
item_flushes s (Trec why) = None
item_flushes s (Token why) = None

-- what an item does in this state
abbrev pub item_piece : State → Item → Piece Collection
item_piece s i = record { text = (item_reply s i).text; is_refusal = (item_reply s i).is_refusal; flushes = item_flushes s i }

-- what the files stand for behind an item, where they stood for this before
abbrev pub kept_by : Collection → State → Item → Collection
kept_by kept s i = unwrap_or (item_flushes s i) kept

-- what items do, one behind the other
unfoldable pub pieces_of : State → List Item → List (Piece Collection)
pieces_of s [] = []
pieces_of s (i ∷ items) = item_piece s i ∷ pieces_of (state_behind s i) items

unfoldable pub state_behind_all : State → List Item → State
state_behind_all s [] = s
state_behind_all s (i ∷ items) = state_behind_all (state_behind s i) items
