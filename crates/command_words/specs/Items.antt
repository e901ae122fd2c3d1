-- What the words behind a command are: items, each a text or an option with its value.
use Rattle.std.specs.Prelude.{ℕ, Bool, ◌==◌, List, [], ◌∷◌, map, codes, Option, None, Some, option_map, if◌then◌else◌}
use Rattle.std.specs.List.{after_first, before_first, list_any}
use Rattle.std.specs.Str.{bytes_eq}

pub data Item : Type 0 where
  text : List ℕ → Item
  -- a name and a value
  option : List ℕ → List ℕ → Item

-- all options; which of them a command has is for the table of commands to say
abbrev pub option_names : List (List ℕ)
option_names = codes "k" ∷ codes "mu" ∷ codes "topic" ∷ codes "run" ∷ []

abbrev pub is_option_name : List ℕ → Bool
is_option_name name = list_any (λ known. bytes_eq known name) option_names

-- ---- a word by itself

pub data Form : Type 0 where
  -- no `-` in front, or `-` alone
  plain : Form
  -- `--NAME`, or `--NAME=VALUE`
  named : List ℕ → Option (List ℕ) → Form
  -- `--`, behind which each word is a text
  end : Form
  -- another word with `-` in front
  other : Form

abbrev pub is_equals : ℕ → Bool
is_equals b = b == 61

-- what stands behind the first `=`
abbrev pub value_in : List ℕ → Option (List ℕ)
value_in bs = if list_any is_equals bs then Some (after_first is_equals bs) else None

abbrev pub behind_two : List ℕ → Form
behind_two [] = end
behind_two (b ∷ bs) = named (before_first is_equals (b ∷ bs)) (value_in (b ∷ bs))

abbrev pub behind_one : List ℕ → Form
behind_one [] = plain
behind_one (b ∷ bs) = if b == 45 then behind_two bs else other

abbrev pub form_of : List ℕ → Form
form_of [] = plain
form_of (b ∷ bs) = if b == 45 then behind_one bs else plain

-- ---- words, one behind the other

-- the next word is an option's value where it is plain
abbrev pub value_then : Form → List ℕ → List ℕ → Option (List Item) → Option (List Item)
value_then plain name word rest = option_map (λ items. option name word ∷ items) rest
value_then _ name word rest = None

abbrev pub named_then : List ℕ → Option (List ℕ) → (Option (List ℕ) → Option (List Item)) → Option (List Item)
named_then name None rest = rest (Some name)
named_then name (Some value) rest = option_map (λ items. option name value ∷ items) (rest None)

abbrev pub item_then : Form → List ℕ → List (List ℕ) → (Option (List ℕ) → Option (List Item)) → Option (List Item)
item_then plain word words rest = option_map (λ items. text word ∷ items) (rest None)
item_then (named name value) word words rest = if is_option_name name then named_then name value rest else None
item_then end word words rest = Some (map text words)
item_then other word words rest = None

-- the items of words, the first of which is the value of an option whose name stands before them
abbrev pub items_from : List (List ℕ) → Option (List ℕ) → Option (List Item)
items_from [] None = Some []
items_from [] (Some name) = None
items_from (word ∷ words) None = item_then (form_of word) word words (items_from words)
items_from (word ∷ words) (Some name) = value_then (form_of word) name word (items_from words None)

abbrev pub items_of : List (List ℕ) → Option (List Item)
items_of words = items_from words None
