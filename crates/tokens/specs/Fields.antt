-- The fields that the tags of a document open and close. Places count terms, from 0.
use Rattle.std.specs.Prelude.{ℕ, ◌+◌, Bool, nat_lt, List, [], ◌∷◌, ◌++◌, length, map, fold, Option, None, Some, if◌then◌else◌}
use Rattle.std.specs.BTreeSet.{insert_key}
use Rattle.std.specs.Cmp.Lexicographic.{slice_cmp}
use Rattle.std.specs.Ordering.{nat_cmp, ordering_then}
use Rattle.std.specs.declared.cmp.Ordering.{Ordering}
use Rattle.std.specs.Str.{bytes_eq}
use Rattle.ri_base.specs.Documents.{Field}
use Rattle.trec_reader.specs.declared.piece.Piece.{Piece}
use Rattle.trec_reader.specs.declared.piece.Piece.TheVariants.{Text, Open, Close, Break}
use Rattle.tokens.specs.Words.{byte_terms}

-- a field that is open: its name, and the place at which it begins
pub record Opened : Type 0 where
  pub name : List ℕ
  pub begin : ℕ

-- In a list of open fields the one that was opened last stands first.

-- where the field of this name begins that was opened last, if one is open
abbrev pub last_begin : List ℕ → List Opened → Option ℕ
last_begin name [] = None
last_begin name (o ∷ opened) = if bytes_eq name o.name then Some o.begin else last_begin name opened

-- the open fields without that one
abbrev pub without_last : List ℕ → List Opened → List Opened
without_last name [] = []
without_last name (o ∷ opened) = if bytes_eq name o.name then opened else o ∷ without_last name opened

abbrev pub field_from : List ℕ → ℕ → Option ℕ → List Field
field_from name end None = []
field_from name end (Some begin) = record { name = name; begin = begin; end = end } ∷ []

-- what an end tag of this name closes: nothing, where no field of its name is open
abbrev pub closed : List ℕ → ℕ → List Opened → List Field
closed name at opened = field_from name at (last_begin name opened)

-- an open field, closed here
abbrev pub closed_at : ℕ → Opened → Field
closed_at at o = record { name = o.name; begin = o.begin; end = at }

-- the fields that are closed by these pieces and by the end of the document behind them
abbrev pub fields_from : ℕ → List Opened → List Piece → List Field
fields_from at opened [] = map (closed_at at) opened
fields_from at opened (Text text ∷ pieces) = fields_from (at + length (byte_terms text)) opened pieces
fields_from at opened (Open name ∷ pieces) = fields_from at (record { name = name; begin = at } ∷ opened) pieces
fields_from at opened (Close name ∷ pieces) = closed name at opened ++ fields_from at (without_last name opened) pieces
fields_from at opened (Break ∷ pieces) = fields_from at opened pieces

abbrev pub has_token : Field → Bool
has_token f = nat_lt f.begin f.end

-- by begin, then by end, then by name
abbrev pub field_cmp : Field → Field → Ordering
field_cmp a b = ordering_then (ordering_then (nat_cmp a.begin b.begin) (nat_cmp a.end b.end)) (slice_cmp nat_cmp a.name b.name)

-- the fields with one more at its place in the order, unless an equal one is there or it has no token
abbrev pub with_field : List Field → Field → List Field
with_field fields f = if has_token f then insert_key field_cmp fields f else fields

abbrev pub with_fields : List Field → List Field → List Field
with_fields fields more = fold with_field fields more

-- the fields of a document: those that have a token, in order, equal ones once
unfoldable pub document_fields : List Piece → List Field
document_fields pieces = with_fields [] (fields_from 0 [] pieces)
