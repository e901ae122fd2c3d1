use Rattle.std.proofs.Common.{◌≡◌, true}
use Rattle.script_tests.proofs.adds.read_items.Given as goal

abbrev pub invariant-items : goal.invariant-items
invariant-items l = l.reader.is_usable ≡ true
