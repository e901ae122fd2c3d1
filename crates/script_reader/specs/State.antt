-- What a reader of items stands for.
use Rattle.std.specs.Prelude.{◌≡◌, ◌<◌, ◌≤◌, ◌+◌, ◌*◌, ◌^◌, ℕ, Bool, true, false, List, [], ◌∷◌, ◌++◌, length, take, drop, Option, None, Some, IfSome, ◌==◌, if◌then◌else◌}
use Rattle.std.specs.Option.{option_map}
use Rattle.read_ahead.specs.Ahead.{Ahead}
use Rattle.trec_reader.specs.Read.{Found, read, read_rest}
use Rattle.script_reader.specs.Items.{found_items, items_at, said, short_items}
use Rattle.script_lines.specs.Asked.{asked}
use Rattle.script_reader.specs.declared.item.Item.{Item}
use Rattle.script_reader.specs.declared.item.Item.TheVariants.{Event, Unread, Trec, Token}
use Rattle.script_reader.specs.declared.item.Unread.TheVariants.{LineTooLong, ShortAdd}
use Rattle.session_events.specs.Events.{is_end as is_end_event}
use Rattle.script_reader.specs.declared.reader.ItemReader.{ItemReader}
use Rattle.script_reader.specs.declared.reader.Stage.{Stage}
use Rattle.script_reader.specs.declared.reader.Stage.TheVariants.{Lines, Documents, Rest, Ended}

-- the offset of the first byte that neither lines nor documents took
abbrev pub position_of : ItemReader → ℕ
position_of r = r.lines.ahead.offset + r.passed

abbrev pub is_ended_stage : Stage → Bool
is_ended_stage Lines = false
is_ended_stage (Documents place missing) = false
is_ended_stage (Rest place missing) = false
is_ended_stage Ended = true

-- the item `end` was read
abbrev pub is_ended : ItemReader → Bool
is_ended r = is_ended_stage r.stage

-- ITEMS

-- what is left of documents of which these bytes are unread, and before them stood as many as the reader says
abbrev pub documents_left : ℕ → List ℕ → Found
documents_left offset bytes = read_rest (offset + length bytes) bytes

-- behind the documents of an `add`, where so many of its bytes are skipped
abbrev pub rest_items : ℕ → ℕ → ℕ → List ℕ → List Item
rest_items place missing at bytes = short_items place missing bytes ++ items_at (at + missing) (drop missing bytes)

abbrev pub block_items : ℕ → ℕ → Ahead → ℕ → List ℕ → List Item
block_items place missing documents at bytes =
    found_items (documents_left documents.offset (documents.bytes ++ take missing bytes)) ++ rest_items place missing at bytes

-- behind an `add` line with so many bytes
abbrev pub added_items : ℕ → ℕ → ℕ → List ℕ → List Item
added_items place n at bytes = found_items (read (take n bytes)) ++ rest_items place n at bytes

-- what a line at this place and the bytes behind it say, which begin at another offset
abbrev pub line_items : Bool → List ℕ → ℕ → ℕ → List ℕ → List Item
line_items too_long text place at bytes =
    if too_long then Unread LineTooLong place ∷ items_at at bytes
    else said (asked text) place bytes (λ n. items_at (at + n) (drop n bytes))

abbrev pub stage_items : Stage → Ahead → ℕ → List ℕ → List Item
stage_items Lines documents at bytes = items_at at bytes
stage_items (Documents place missing) documents at bytes = block_items place missing documents at bytes
stage_items (Rest place missing) documents at bytes = rest_items place missing at bytes
stage_items Ended documents at bytes = []

-- the items that a reader will give where its source has these bytes left
abbrev pub items_left : ItemReader → List ℕ → List Item
items_left r rest = stage_items r.stage r.documents.ahead (position_of r) (r.lines.ahead.bytes ++ rest)

-- the item behind an `add` of which so many bytes are missing
abbrev pub short_of : ℕ → ℕ → Option Item
short_of place n = if n == 0 then None else Some (Unread ShortAdd place)

-- an item, if there is one, before others
abbrev pub with_item : Option Item → List Item → List Item
with_item None items = items
with_item (Some item) items = item ∷ items

-- the item is the event `end`
abbrev pub is_end : Option Item → Bool
is_end None = false
is_end (Some (Event e)) = is_end_event e
is_end (Some (Unread kind place)) = false
is_end (Some (Trec refusal)) = false
is_end (Some (Token refusal)) = false

-- A turn gave this item, or none yet, of those that were left.
abbrev pub GivesTurn : Option Item → ItemReader → Option (List ℕ) → ItemReader → Option (List ℕ) → Type 0
GivesTurn found old left_old new left_new = option_map (items_left old) left_old ≡ option_map (λ rest. with_item found (items_left new rest)) left_new

abbrev pub answer_items : Option Item → ItemReader → List ℕ → List Item
answer_items None r rest = []
answer_items (Some item) r rest = item ∷ items_left r rest

-- The call gave the first of the items that were left, or there were none.
abbrev pub GivesItem : Option Item → ItemReader → Option (List ℕ) → ItemReader → Option (List ℕ) → Type 0
GivesItem found old left_old new left_new = option_map (items_left old) left_old ≡ option_map (answer_items found new) left_new

-- WORK

-- Each turn takes a byte or comes to a later stage.
abbrev pub stage_work : Stage → ℕ → ℕ → ℕ
stage_work Lines documents bytes = 1 + 3 * bytes
stage_work (Documents place missing) documents bytes = 3 + 3 * (documents + bytes)
stage_work (Rest place missing) documents bytes = 2 + 3 * bytes
stage_work Ended documents bytes = 0

-- a number that each call lowers, where the source can still give so many bytes
abbrev pub work_left : ItemReader → ℕ → ℕ
work_left r can_give = stage_work r.stage (length r.documents.ahead.bytes) (length r.lines.ahead.bytes + can_give)

-- CONDITION

-- The documents of an `add` come first from what they have ahead, then from the source itself.
abbrev pub IsReadyFor : Stage → ItemReader → Option (List ℕ) → Type 0
IsReadyFor Lines r left = Unit {0}
IsReadyFor (Documents place missing) r left =
    (r.documents.is_ended ≡ false)
    × (r.documents.ahead.offset + length r.documents.ahead.bytes ≤ position_of r)
    × IfSome left (λ _. 0 < missing → r.lines.ahead.bytes ≡ [])
IsReadyFor (Rest place missing) r left = Unit {0}
IsReadyFor Ended r left = Unit {0}

-- all offsets fit, and the reader may be called
pub record IsReady (r : ItemReader) (left : Option (List ℕ)) (can_give : ℕ) : Type 0 where
  pub fits : position_of r + length r.lines.ahead.bytes + can_give < 2 ^ 64
  pub stage : IsReadyFor r.stage r left
