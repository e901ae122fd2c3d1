use Rattle.document_scoring.proofs.CounterLemmas.{count_none}
use Rattle.document_scoring.proofs.counters.Counter.count_whole.Goals as goal

pub returns-then-tokens-eq0 : goal.returns-then-tokens-eq0
returns-then-tokens-eq0 c = rw c.if-tokens-eq0.true (count_none 0 c.args.self.now c.requires)
