-- The form of a script, line by line.
use Rattle.std.specs.Prelude.{◌≡◌, ◌<◌, ◌≤◌, ℕ, ◌+◌, ◌-◌, List, [], ◌∷◌, ◌++◌, length}
use Rattle.trec_reader.specs.Read.{read}
use Rattle.line_reader.specs.Form.{IsLine}
use Rattle.line_reader.specs.declared.line.TheConstants.{LINE_BYTES}
use Rattle.script_lines.specs.Asked.{asked}
use Rattle.script_lines.specs.declared.asked.Asked.{Asked}
use Rattle.script_lines.specs.declared.asked.Asked.TheVariants as asks
use Rattle.session_events.specs.declared.event.Event.{Event as SomeEvent}
use Rattle.session_events.specs.declared.event.Event.TheVariants as happens
use Rattle.script_reader.specs.Items.{found_items}
use Rattle.script_reader.specs.declared.item.Item.{Item}
use Rattle.script_reader.specs.declared.item.Item.TheVariants.{Event, Unread}
use Rattle.script_reader.specs.declared.item.Unread.TheVariants.{BadEvent, LineTooLong, ShortAdd}

-- the offset behind a line at this offset
abbrev pub offset_behind : ℕ → List ℕ → List ℕ → ℕ
offset_behind offset bytes rest = offset + (length bytes - length rest)

-- a line that isn't too long stands here, and asks for this
pub record Asks (a : Asked) (bytes rest : List ℕ) : Type 0 where
  pub text : List ℕ
  pub line : IsLine text bytes rest
  pub short : length text ≤ LINE_BYTES
  pub says : asked text ≡ a

-- These are the items of these bytes, the first of which stands at this offset in its script.
pub data IsScript : ℕ → List ℕ → List Item → Type 0 where
  at_end : (offset : ℕ) → IsScript offset [] (Event happens.End ∷ [])
  ends : (offset : ℕ) (bytes rest : List ℕ) → Asks asks.End bytes rest → IsScript offset bytes (Event happens.End ∷ [])
  empty : (offset : ℕ) (bytes rest : List ℕ) (items : List Item) → Asks asks.Nothing bytes rest → IsScript (offset_behind offset bytes rest) rest items → IsScript offset bytes items
  unknown : (offset : ℕ) (bytes rest : List ℕ) (items : List Item) → Asks asks.Unknown bytes rest → IsScript (offset_behind offset bytes rest) rest items → IsScript offset bytes (Unread BadEvent offset ∷ items)
  too_long : (offset : ℕ) (text bytes rest : List ℕ) (items : List Item) → IsLine text bytes rest → LINE_BYTES < length text → IsScript (offset_behind offset bytes rest) rest items → IsScript offset bytes (Unread LineTooLong offset ∷ items)
  one : (offset : ℕ) (e : SomeEvent) (bytes rest : List ℕ) (items : List Item) → Asks (asks.Event e) bytes rest → IsScript (offset_behind offset bytes rest) rest items → IsScript offset bytes (Event e ∷ items)
  add : (offset : ℕ) (bytes behind block rest : List ℕ) (items : List Item) → Asks (asks.Add (length block)) bytes behind → behind ≡ block ++ rest → IsScript (offset_behind offset bytes rest) rest items → IsScript offset bytes (found_items (read block) ++ items)
  short_add : (offset n : ℕ) (bytes block : List ℕ) → Asks (asks.Add n) bytes block → length block < n → IsScript offset bytes (found_items (read block) ++ Unread ShortAdd offset ∷ Event happens.End ∷ [])
