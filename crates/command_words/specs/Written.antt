-- The ways in which items are written as words. No reading is told here.
use Rattle.std.specs.Prelude.{ℕ, ◌≡◌, ◌≢◌, ◌⊎◌, List, [], ◌∷◌, ◌++◌, map, codes, IsTrue}
use Rattle.command_words.specs.Items.{Item, is_option_name, option, text}

-- no `-` (45) in front, or `-` alone
abbrev pub IsPlain : List ℕ → Type 0
IsPlain word = (word ≡ codes "-") ⊎ ((rest : List ℕ) → word ≢ 45 ∷ rest)

pub data AreWords : List Item → List (List ℕ) → Type 0 where
  none : AreWords [] []
  -- a text as it stands
  with_text : (t : List ℕ) (items : List Item) (words : List (List ℕ)) → IsPlain t → AreWords items words → AreWords (text t ∷ items) (t ∷ words)
  -- `--NAME=VALUE`
  with_equals : (name value : List ℕ) (items : List Item) (words : List (List ℕ)) → IsTrue (is_option_name name) → AreWords items words → AreWords (option name value ∷ items) ((codes "--" ++ (name ++ 61 ∷ value)) ∷ words)
  -- `--NAME VALUE`
  with_next : (name value : List ℕ) (items : List Item) (words : List (List ℕ)) → IsTrue (is_option_name name) → IsPlain value → AreWords items words → AreWords (option name value ∷ items) ((codes "--" ++ name) ∷ (value ∷ words))
  -- `--`, and behind it texts of any form
  with_end : (texts : List (List ℕ)) → AreWords (map text texts) (codes "--" ∷ texts)
