use Rattle.std.proofs.Common.{take}
use Rattle.range_tables.proofs.NeedLemmas.{HasNone}
use Rattle.range_tables.proofs.needs.+words.Given as goal

abbrev pub invariant-some_has_word-loop-x : goal.invariant-some_has_word-loop-x
invariant-some_has_word-loop-x l = HasNone l.term (take l.x-index l.all)
