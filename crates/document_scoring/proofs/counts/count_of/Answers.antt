use Rattle.query_check.specs.Leaves.{leaf_tree}
use Rattle.document_scoring.proofs.CounterLemmas.{whole_is}
use Rattle.document_scoring.proofs.counts.count_of.Goals as goal

pub returns-clause-exact : goal.returns-clause-exact
returns-clause-exact g c = λ sound.
    whole_is (g.P.Postings.documents c.args.part.now) (g.P.Postings.documents c.found_of.new.part) c.args.id (leaf_tree c.args.leaf.now) c.spans.result.now c.length.result c.in_ok-found.found c.whole_count.result
    c.in_ok-found.ensures.keeps.documents_stay c.spans.ensures.exact c.length.ensures.exact c.whole_count.ensures.exact (c.in_ok-found.ensures.exact sound)
