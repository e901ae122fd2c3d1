use Rattle.std.proofs.Common.{◌≡◌, length, take}
use Rattle.seg_codec.specs.Held.{rebuilt}
use Rattle.seg_codec.proofs.held.rebuilt.Given as goal

abbrev pub invariant-loop-entry : goal.invariant-loop-entry
invariant-loop-entry l = record {
  count : l.id ≡ length l.yielded;
  made : l.found.items ≡ rebuilt l.terms (take l.id l.fn.documents.items) (take l.id l.ranks);
}
