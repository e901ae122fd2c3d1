use Rattle.std.proofs.Common.{◌≡◌, ◌++◌, drop}
use Rattle.extent_lists.proofs.LeafLemmas.{named}
use Rattle.extent_lists.proofs.leaves.of_fields.Given as goal

abbrev pub invariant-loop-span : goal.invariant-loop-span
invariant-loop-span l = l.out.items ++ named l.name (drop l.span-index l.spans) ≡ named l.name l.spans
