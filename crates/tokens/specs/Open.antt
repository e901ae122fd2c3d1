-- What the fields that are open keep: the places at which those of each name begin, that of the last one first.
use Rattle.std.specs.Prelude.{◌≡◌, ℕ, List, [], ◌∷◌, map, if◌then◌else◌}
use Rattle.std.specs.BTreeMap.{get}
use Rattle.std.specs.Cmp.Lexicographic.{slice_cmp}
use Rattle.std.specs.List.{flat_map}
use Rattle.std.specs.Prelude.{reverse}
use Rattle.ri_base.specs.Documents.{Field}
use Rattle.std.specs.Option.{option_map, unwrap_or}
use Rattle.std.specs.Ordering.{nat_cmp}
use Rattle.std.specs.Str.{bytes_eq}
use Rattle.trec_reader.specs.declared.piece.Piece.{Piece}
use Rattle.tokens.specs.Fields.{Opened, fields_from, with_fields}
use Rattle.tokens.specs.declared.open_fields.OpenFields.{OpenFields}

-- where the open fields of this name begin
abbrev pub begins_of : List ℕ → List Opened → List ℕ
begins_of name [] = []
begins_of name (o ∷ opened) = if bytes_eq name o.name then o.begin ∷ begins_of name opened else begins_of name opened

-- the same, as it is kept
abbrev pub begins_at : OpenFields → List ℕ → List ℕ
begins_at fields name = unwrap_or (option_map (λ begins. reverse begins.items) (get (slice_cmp nat_cmp) fields.begins name)) []

-- these fields are open
abbrev pub Keeps : OpenFields → List Opened → Type 0
Keeps fields opened = (name : List ℕ) → begins_at fields name ≡ begins_of name opened

-- the fields of a name that begin at these places and end here
abbrev pub named : ℕ → List ℕ → List ℕ → List Field
named end name begins = map (λ begin. record { name = name; begin = begin; end = end }) begins

-- the fields that are open, closed here
abbrev pub closings : ℕ → OpenFields → List Field
closings end fields = flat_map (λ e. named end e.0 e.1.items) fields.begins.entries

-- A piece was read: what the fields come to with the pieces behind it is what they came to with the piece and those.
-- Before it stood so many tokens, these fields were open and these were closed; `now` is what it has come to.
abbrev pub ReadsBehind : Piece → ℕ → List Opened → List Field → ℕ → OpenFields → List Field → Type 0
ReadsBehind piece at opened fields at_now opened_now fields_now = (list : List Opened) × Keeps opened_now list
    × ((rest : List Piece) → with_fields fields_now (fields_from at_now list rest) ≡ with_fields fields (fields_from at opened (piece ∷ rest)))
