-- What an item may hold.
use Rattle.session_events.specs.Events.{IsSessionEvent}
use Rattle.tokens.specs.declared.document.TokenRefusal.{TokenRefusal}
use Rattle.tokens.specs.declared.document.TokenRefusal.TheVariants.{TooManyTokens, TooManyFields, Memory as NoRoom}
use Rattle.trec_reader.specs.declared.refusal.TrecRefusal.{TrecRefusal}
use Rattle.trec_reader.specs.declared.refusal.TrecRefusal.TheVariants.{NoDocno, DocnoEmpty, DocnoBad, DocnoLong, DocOpen, NotADoc, DocTooLarge, Read, Ended, Memory}
use Rattle.script_reader.specs.declared.item.Item.{Item}
use Rattle.script_reader.specs.declared.item.Item.TheVariants.{Event, Unread, Trec, Token}

-- a refusal that stands in the text
abbrev pub IsTextRefusal : TrecRefusal → Type 0
IsTextRefusal (NoDocno at) = Unit {0}
IsTextRefusal (DocnoEmpty at) = Unit {0}
IsTextRefusal (DocnoBad at) = Unit {0}
IsTextRefusal (DocnoLong at) = Unit {0}
IsTextRefusal (DocOpen at) = Unit {0}
IsTextRefusal (NotADoc at) = Unit {0}
IsTextRefusal (DocTooLarge at) = Unit {0}
IsTextRefusal Read = ⊥
IsTextRefusal Ended = ⊥
IsTextRefusal Memory = ⊥

abbrev pub IsDocumentRefusal : TokenRefusal → Type 0
IsDocumentRefusal (TooManyTokens docno) = Unit {0}
IsDocumentRefusal (TooManyFields docno) = Unit {0}
IsDocumentRefusal NoRoom = ⊥

-- an event with its numbers in their ranges and its text in UTF-8; a refusal that stands in the text
abbrev pub IsItem : Item → Type 0
IsItem (Event e) = IsSessionEvent e
IsItem (Unread kind place) = Unit {0}
IsItem (Trec refusal) = IsTextRefusal refusal
IsItem (Token refusal) = IsDocumentRefusal refusal
