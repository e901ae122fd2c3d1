use Rattle.windows.proofs.OrderLemmas.{windows-AreRising, windows-some, windows-within}
use Rattle.windows.proofs.contexts.Contexts.new.Goals as goal

pub returns-clause-order : goal.returns-clause-order
returns-clause-order c = rw c.of.ensures.exact (windows-AreRising _ _ c.requires.fields c.args.range.now c.requires.numbers)

pub returns-clause-some : goal.returns-clause-some
returns-clause-some c = rw c.of.ensures.exact (windows-some _ _ c.requires.fields c.args.range.now c.requires.numbers)

pub returns-clause-within : goal.returns-clause-within
returns-clause-within c = rw c.of.ensures.exact (windows-within _ _ c.requires.fields c.args.range.now c.requires.numbers)
