-- The rows of the table of lines.
use Rattle.std.specs.Prelude.{◌≡◌, ◌<◌, ◌≤◌, ℕ, true, List, ◌∷◌, ◌++◌, length, map, codes}
use Rattle.std.specs.List.{list_all}
use Rattle.std.specs.Str.{is_utf8}
use Rattle.ri_base.specs.Ascii.{is_digit, lower}
use Rattle.ri_base.specs.Text.{is_docno, is_name}
use Rattle.line_parts.specs.Digits.{value_from}
use Rattle.session_events.specs.declared.event.TheConstants.{MAX_ADD_BYTES, MAX_RESULTS, MAX_TURN_DOCS}
use Rattle.script_lines.specs.declared.asked.Asked.{Asked}
use Rattle.script_lines.specs.declared.asked.Asked.TheVariants.{Add, End, Event}
use Rattle.session_events.specs.declared.event.Event.TheVariants as happens

-- digits without a leading zero, of this value, from 1 to `most`
pub record IsNumber (most : ℕ) (digits : List ℕ) (n : ℕ) : Type 0 where
  pub some : 0 < length digits
  pub all_digits : list_all is_digit digits ≡ true
  pub no_zero : (rest : List ℕ) → digits ≡ 48 ∷ rest → ⊥
  pub value : value_from 0 digits ≡ n
  pub within : n ≤ most

-- a name is read without case
pub record IsNameOf (word name : List ℕ) : Type 0 where
  pub lowered : name ≡ map lower word
  pub form : is_name name ≡ true

pub data IsRow : List ℕ → Asked → Type 0 where
  add : (text digits : List ℕ) (n : ℕ) → IsNumber MAX_ADD_BYTES digits n → text ≡ codes "add" ++ 32 ∷ digits → IsRow text (Add n)
  delete : (text docno : List ℕ) → is_docno docno ≡ true → text ≡ codes "delete" ++ 32 ∷ docno → IsRow text (Event (happens.Delete docno))
  flush : (text : List ℕ) → text ≡ codes "flush" → IsRow text (Event happens.Flush)
  merge : (text : List ℕ) → text ≡ codes "merge" → IsRow text (Event happens.Merge)
  turn : (text digits : List ℕ) (n : ℕ) → IsNumber MAX_TURN_DOCS digits n → text ≡ codes "turn" ++ 32 ∷ digits → IsRow text (Event (happens.Turn n))
  open_query : (text word name digits query : List ℕ) (k : ℕ) → IsNameOf word name → IsNumber MAX_RESULTS digits k → is_utf8 query ≡ true → text ≡ codes "open" ++ 32 ∷ (word ++ 32 ∷ (digits ++ 32 ∷ query)) → IsRow text (Event (happens.Open name k query))
  step : (text word name digits : List ℕ) (n : ℕ) → IsNameOf word name → IsNumber MAX_TURN_DOCS digits n → text ≡ codes "step" ++ 32 ∷ (word ++ 32 ∷ digits) → IsRow text (Event (happens.Step name n))
  show : (text word name : List ℕ) → IsNameOf word name → text ≡ codes "show" ++ 32 ∷ word → IsRow text (Event (happens.Show name))
  explain : (text word name digits : List ℕ) (rank : ℕ) → IsNameOf word name → IsNumber MAX_RESULTS digits rank → text ≡ codes "explain" ++ 32 ∷ (word ++ 32 ∷ digits) → IsRow text (Event (happens.Explain name rank))
  scan : (text expr : List ℕ) → is_utf8 expr ≡ true → text ≡ codes "scan" ++ 32 ∷ expr → IsRow text (Event (happens.Scan expr))
  close : (text word name : List ℕ) → IsNameOf word name → text ≡ codes "close" ++ 32 ∷ word → IsRow text (Event (happens.Close name))
  end : (text : List ℕ) → text ≡ codes "end" → IsRow text End
