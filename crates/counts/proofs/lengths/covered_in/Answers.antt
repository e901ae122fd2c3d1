use Rattle.std.proofs.Common.{None}
use Rattle.ri_base.specs.Collection.{document_at}
use Rattle.disk_index.specs.Parts.{reads, source_of}
use Rattle.counts.proofs.OccurrenceLemmas.{covered_is, covered_none}
use Rattle.counts.proofs.lengths.covered_in.Goals as goal

pub covered-requires : goal.covered-requires
covered-requires c = (c.spans.ensures.form None).sound.in_order

pub returns-then-tokens-eq0-clause-exact : goal.returns-then-tokens-eq0-clause-exact
returns-then-tokens-eq0-clause-exact c = λ told.
    covered_none (document_at (reads told (source_of c.args.part.now)) c.args.id) c.args.name.now c.length-tokens.result c.if-tokens-eq0.true (c.length-tokens.ensures.exact told)

pub returns-clause-exact : goal.returns-clause-exact
returns-clause-exact c = λ told.
    covered_is (document_at (reads told (source_of c.args.part.now)) c.args.id) c.args.name.now c.spans.result.now c.length-tokens.result c.covered.result c.new.result (c.spans.ensures.exact told)
    (c.length-tokens.ensures.exact told) c.new.ensures c.covered.ensures.exact
