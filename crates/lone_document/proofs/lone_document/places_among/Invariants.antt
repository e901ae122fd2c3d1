use Rattle.std.proofs.Common.{◌≡◌, take}
use Rattle.ri_base.specs.Places.{places_from}
use Rattle.lone_document.proofs.lone_document.places_among.Given as goal

abbrev pub invariant-loop-token : goal.invariant-loop-token
invariant-loop-token l = record { at_is : l.at ≡ l.token-index; places_are : l.places.items ≡ places_from 0 l.term (take l.token-index l.tokens) }
