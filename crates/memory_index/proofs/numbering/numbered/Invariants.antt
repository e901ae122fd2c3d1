use Rattle.std.proofs.Common.{take}
use Rattle.memory_index.specs.Numbering.{IsNumbering}
use Rattle.memory_index.proofs.numbering.numbered.Given as goal

abbrev pub invariant-loop-t : goal.invariant-loop-t
invariant-loop-t l = IsNumbering l.initial.terms.keys l.terms.keys (take l.t-index l.tokens) l.numbers.items
