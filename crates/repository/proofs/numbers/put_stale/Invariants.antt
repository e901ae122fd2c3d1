use Rattle.std.proofs.Common.{◌≡◌, take}
use Rattle.manifest.specs.Entries.{with_numbers}
use Rattle.repository.proofs.numbers.put_stale.Given as goal

abbrev pub invariant-loop-number : goal.invariant-loop-number
invariant-loop-number l = l.taken.keys ≡ with_numbers l.fn.taken.keys (take l.number-index l.stale)
