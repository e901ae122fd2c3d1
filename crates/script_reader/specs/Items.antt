-- The items of a session script.
use Rattle.std.specs.Prelude.{ℕ, zero, suc, ◌+◌, nat_lt, List, [], ◌∷◌, ◌++◌, length, map, take, Option, Some, None, Result, Ok, Err, if◌then◌else◌}
use Rattle.std.specs.List.{position_or_len}
use Rattle.ri_base.specs.Documents.{Document}
use Rattle.trec_reader.specs.Read.{Found, read}
use Rattle.trec_reader.specs.declared.document.RawDoc.{RawDoc}
use Rattle.trec_reader.specs.declared.refusal.TrecRefusal.{TrecRefusal}
use Rattle.tokens.specs.Content.{content}
use Rattle.tokens.specs.declared.document.TokenRefusal.{TokenRefusal}
use Rattle.line_reader.specs.Lines.{behind_line, is_feed, is_too_long, line}
use Rattle.script_lines.specs.Asked.{asked}
use Rattle.script_lines.specs.declared.asked.Asked.{Asked}
use Rattle.script_lines.specs.declared.asked.Asked.TheVariants as asks
use Rattle.session_events.specs.declared.event.Event.TheVariants as event
use Rattle.script_reader.specs.declared.item.Item.{Item}
use Rattle.script_reader.specs.declared.item.Item.TheVariants.{Event, Unread, Trec, Token}
use Rattle.script_reader.specs.declared.item.Unread.TheVariants.{BadEvent, LineTooLong, ShortAdd}

-- THE BYTES OF AN `add`

abbrev pub token_item : Result Document TokenRefusal → Item
token_item (Ok d) = Event (event.Document d)
token_item (Err refusal) = Token refusal

-- each document is an event or is refused
abbrev pub document_item : RawDoc → Item
document_item d = token_item (content d)

abbrev pub refusal_items : Option TrecRefusal → List Item
refusal_items None = []
refusal_items (Some refusal) = Trec refusal ∷ []

-- the documents, and the refusal behind them, if there is one
abbrev pub found_items : Found → List Item
found_items found = map document_item found.0 ++ refusal_items found.1

-- there are fewer than n bytes behind the `add` line at this place
abbrev pub short_items : ℕ → ℕ → List ℕ → List Item
short_items place n bytes = if nat_lt (length bytes) n then Unread ShortAdd place ∷ [] else []

-- LINES

-- What a line at this place asks for, with the bytes behind it, and then the items behind the first so many of these.
abbrev pub said : Asked → ℕ → List ℕ → (ℕ → List Item) → List Item
said asks.Nothing place behind further = further 0
said asks.Unknown place behind further = Unread BadEvent place ∷ further 0
said (asks.Event e) place behind further = Event e ∷ further 0
said (asks.Add n) place behind further = found_items (read (take n behind)) ++ (short_items place n behind ++ further n)
said asks.End place behind further = Event event.End ∷ []

abbrev pub line_said : List ℕ → ℕ → List ℕ → (ℕ → List Item) → List Item
line_said text place behind further = if is_too_long text then Unread LineTooLong place ∷ further 0 else said (asked text) place behind further

-- the items of the bytes behind the first n of these, the first of which stands at this offset
abbrev pub items_behind : ℕ → ℕ → List ℕ → List Item
items_behind offset n [] = Event event.End ∷ []
items_behind offset (suc n) (b ∷ bytes) = items_behind (suc offset) n bytes
items_behind offset zero (b ∷ bytes) = line_said (line (b ∷ bytes)) offset (behind_line (b ∷ bytes)) (λ n. items_behind (suc offset) (position_or_len is_feed (b ∷ bytes) + n) bytes)

-- the items of the lines from this offset on
unfoldable pub items_at : ℕ → List ℕ → List Item
items_at offset bytes = items_behind offset 0 bytes

-- the items of a script
abbrev pub items : List ℕ → List Item
items bytes = items_at 0 bytes
