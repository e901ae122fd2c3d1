use Rattle.document_scoring.proofs.CounterLemmas.{whole_range}
use Rattle.document_scoring.proofs.counters.whole_count.Goals as goal

pub returns-clause-range : goal.returns-clause-range
returns-clause-range c =
    whole_range c.new-counter.result c.args.tokens c.count_whole.result c.requires.few c.new-counter.ensures.ready c.count_whole.ensures
