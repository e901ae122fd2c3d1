-- What becomes of a document behind a collection.
use Rattle.std.specs.Prelude.{ℕ, ◌+◌, Bool, ◌||◌, nat_lt, List, [], ◌∷◌, ◌++◌, codes, length, map, Result, Ok, Err, if◌then◌else◌}
use Rattle.std.specs.Fmt.{decimal}
use Rattle.std.specs.Set.{is_member}
use Rattle.std.specs.Str.{bytes_eq}
use Rattle.ri_base.specs.Documents.{Document}
use Rattle.command_pieces.specs.Written.{Plain, told_piece}
use Rattle.holdings.specs.declared.limits.Limits.{Limits}
use Rattle.refusals.specs.Lines.{refusal_piece}
use Rattle.refusals.specs.declared.refusal.CollectionKind.TheVariants.{CollectionFull, Repeated}
use Rattle.refusals.specs.declared.refusal.Refusal.{Refusal}
use Rattle.refusals.specs.declared.refusal.Refusal.TheVariants as refusal
use Rattle.repository.specs.Stands.{Collection}
use Rattle.repository.specs.Steps.{with_document}
use Rattle.tokens.specs.declared.document.TokenRefusal.{TokenRefusal}

-- one of the documents has this docno
abbrev pub is_there : List Document → List ℕ → Bool
is_there docs docno = is_member bytes_eq (map (λ (d : Document). d.docno) docs) docno

-- with this document more would be held than the limits allow
abbrev pub holds_too_much : Limits → Collection → Document → Bool
holds_too_much limits c d = nat_lt limits.held_docs (c.documents + 1) || nat_lt limits.held_tokens (c.tokens + length d.tokens)

-- it is added, or refused
abbrev pub addition : Limits → Collection → Result Document TokenRefusal → Result Document Refusal
addition limits c (Ok d) =
    if is_there c.live d.docno then Err (refusal.Collection Repeated d.docno)
    else if holds_too_much limits c d then Err (refusal.Collection CollectionFull d.docno)
    else Ok d
addition limits c (Err why) = Err (refusal.Document why)

abbrev pub collection_with : Collection → Result Document Refusal → Collection
collection_with c (Ok d) = with_document c d
collection_with c (Err why) = c

-- added DOCNO LENGTH
abbrev pub added_text : Document → List ℕ
added_text d = codes "added " ++ d.docno ++ 32 ∷ decimal (length d.tokens) ++ 10 ∷ []

-- what is written of it
abbrev pub added : Result Document Refusal → Plain
added (Ok d) = told_piece (added_text d)
added (Err why) = refusal_piece why
