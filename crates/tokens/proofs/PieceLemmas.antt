-- What a piece does to the fields of its document.
use Rattle.std.proofs.Common.{ℕ, ◌≡◌, List, ◌∷◌, ◌++◌, Result, Ok, Err, length, length-append, ap, sym, ◌∙◌}
use Rattle.std.specs.Prelude.{OnOk}
use Rattle.std.proofs.lemmas.List.Sums.{fold-append}
use Rattle.ri_base.specs.Documents.{Field}
use Rattle.trec_reader.specs.declared.piece.Piece.{Piece}
use Rattle.trec_reader.specs.declared.piece.Piece.TheVariants.{Text, Open, Close, Break}
use Rattle.tokens.specs.Fields.{Opened, closed, fields_from, with_field, with_fields, without_last}
use Rattle.tokens.specs.Open.{Keeps, ReadsBehind, begins_at}
use Rattle.tokens.specs.Words.{byte_terms}
use Rattle.tokens.specs.declared.open_fields.OpenFields.{OpenFields}
use Rattle.tokens.proofs.ClosingLemmas.{Others, keeps_with}

pub text_behind : {T E : Type 0} (r : Result T E) (piece : Piece) (text : List ℕ) (old new : List (List ℕ)) (fields : List Field) (opened : OpenFields) → piece ≡ Text text → OnOk r (new ≡ old ++ byte_terms text) →
    OnOk r ((list : List Opened) → Keeps opened list → ReadsBehind piece (length old) list fields (length new) opened fields)
text_behind (Ok x) piece text old new fields opened is e = λ list keeps. (list, keeps, λ rest. ap (λ at. with_fields fields (fields_from at list rest)) (ap length e ∙ length-append old (byte_terms text)) ∙ ap (λ p. with_fields fields (fields_from (length old) list (p ∷ rest))) (sym is))
text_behind (Err x) piece text old new fields opened is e = tt

pub open_behind : (piece : Piece) (name : List ℕ) (at begin : ℕ) (list : List Opened) (fields : List Field) (old new : OpenFields) → piece ≡ Open name → begin ≡ at → begins_at new name ≡ begin ∷ begins_at old name → Others old new name → Keeps old list →
    ReadsBehind piece at list fields at new fields
open_behind piece name at begin list fields old new is same here others keeps = (
  record { name = name; begin = begin } ∷ list,
  keeps_with old new name begin list here others keeps,
  λ rest. ap (λ b. with_fields fields (fields_from at (record { name = name; begin = b } ∷ list) rest)) same ∙ ap (λ p. with_fields fields (fields_from at list (p ∷ rest))) (sym is),
)

pub close_behind : (piece : Piece) (name : List ℕ) (at end : ℕ) (list : List Opened) (fields fields' : List Field) (opened : OpenFields) → piece ≡ Close name → end ≡ at → fields' ≡ with_fields fields (closed name end list) → Keeps opened (without_last name list) →
    ReadsBehind piece at list fields at opened fields'
close_behind piece name at end list fields fields' opened is same e keeps = (
  without_last name list,
  keeps,
  λ rest. ap (λ now. with_fields now (fields_from at (without_last name list) rest)) (e ∙ ap (λ n. with_fields fields (closed name n list)) same)
      ∙ sym (fold-append with_field fields (closed name at list) (fields_from at (without_last name list) rest))
      ∙ ap (λ p. with_fields fields (fields_from at list (p ∷ rest))) (sym is),
)

pub break_behind : (piece : Piece) (at : ℕ) (list : List Opened) (fields : List Field) (opened : OpenFields) → piece ≡ Break → Keeps opened list → ReadsBehind piece at list fields at opened fields
break_behind piece at list fields opened is keeps = (list, keeps, λ rest. ap (λ p. with_fields fields (fields_from at list (p ∷ rest))) (sym is))
