-- What the reading of a command's text answers. Want of memory may be answered always.
use Rattle.std.specs.Prelude.{◌≡◌, Option, Some}
use Rattle.query_reader.specs.declared.fault.QueryFault.{QueryFault}
use Rattle.query_reader.specs.declared.fault.QueryFault.TheVariants as text
use Rattle.query_refusals.specs.declared.refusal.QueryRefusal.{QueryRefusal}
use Rattle.query_refusals.specs.declared.refusal.QueryRefusal.TheVariants as refusal
use Rattle.indri_app.specs.declared.texts.TextFault.{TextFault}
use Rattle.indri_app.specs.declared.texts.TextFault.TheVariants.{Memory, Refused}

-- the text is refused so, or memory was wanting
abbrev pub IsTextFault : Option QueryRefusal → TextFault → Type 0
IsTextFault why (Refused refusal) = why ≡ Some refusal
IsTextFault why Memory = Unit {0}

-- why a text isn't read
abbrev pub text_fault : QueryFault → TextFault
text_fault (text.Refused kind place) = Refused (refusal.Text kind place)
text_fault text.Memory = Memory
