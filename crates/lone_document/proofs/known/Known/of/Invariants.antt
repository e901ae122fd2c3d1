use Rattle.std.proofs.Common.{◌≡◌, take}
use Rattle.lone_document.specs.Known.{AreKnown}
use Rattle.lone_document.proofs.known.Known.of.Given as goal

abbrev pub invariant-loop-token : goal.invariant-loop-token
invariant-loop-token l = record { at_is : l.at ≡ l.token-index; known : AreKnown l.known (take l.token-index l.tokens) }
