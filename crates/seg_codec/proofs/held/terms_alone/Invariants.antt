use Rattle.std.proofs.Common.{◌≡◌}
use Rattle.seg_codec.specs.Held.{terms_of}
use Rattle.seg_codec.proofs.held.terms_alone.Given as goal

abbrev pub invariant-loop-entry : goal.invariant-loop-entry
invariant-loop-entry l = l.found.items ≡ terms_of l.yielded
