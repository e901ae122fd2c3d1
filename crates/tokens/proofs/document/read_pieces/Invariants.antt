use Rattle.std.proofs.Common.{◌≡◌, ◌≤◌, ◌++◌, List, length}
use Rattle.std.specs.List.Sorted.{IsStrictlySortedBy}
use Rattle.tokens.specs.Content.{document_terms}
use Rattle.tokens.specs.Fields.{Opened, document_fields, field_cmp, fields_from, with_fields}
use Rattle.tokens.specs.Open.{Keeps}
use Rattle.tokens.proofs.document.read_pieces.Given as goal
use Rattle.ri_base.specs.declared.limits.TheConstants.{MAX_DOC_TOKENS}

-- the tokens so far and those of the pieces that are left, and what the fields so far come to with those pieces
abbrev pub invariant-loop-piece : goal.invariant-loop-piece
invariant-loop-piece l =
    (l.tokens ++ document_terms l.piece-iterator.rest.items ≡ document_terms l.fn.pieces)
    × (length l.tokens ≤ MAX_DOC_TOKENS)
    × ((list : List Opened) × Keeps l.opened list × (with_fields l.fields (fields_from (length l.tokens) list l.piece-iterator.rest.items) ≡ document_fields l.fn.pieces))
    × IsStrictlySortedBy field_cmp l.fields
