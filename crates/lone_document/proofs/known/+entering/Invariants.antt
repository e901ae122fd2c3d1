use Rattle.std.proofs.Common.{[]}
use Rattle.lone_document.specs.Known.{AreKnown}
use Rattle.lone_document.proofs.known.+entering.Given as goal

abbrev pub invariant-enter_all-loop-x : goal.invariant-enter_all-loop-x
invariant-enter_all-loop-x l = AreKnown l.fn.known [] → AreKnown l.known []
