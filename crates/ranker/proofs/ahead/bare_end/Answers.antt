use Rattle.std.proofs.Common.{None, Some, List, map, subst, arith}
use Rattle.ri_base.specs.Query.{filter_tree}
use Rattle.query_check.specs.Leaves.{LeafTree}
use Rattle.range_masks.specs.May.{query_may}
use Rattle.range_masks.specs.Next.{IsPassed}
use Rattle.ranker.proofs.ahead.bare_end.Goals as goal

pub returns-in-Some-clause-bare : goal.returns-in-Some-clause-bare
returns-in-Some-clause-bare g c = λ sound id low high.
    let docs = g.P.Postings.documents c.args.part.now in
    let filters = map filter_tree c.args.filters.now in
    let passed = subst (λ (ls : List LeafTree). IsPassed (query_may filters ls) docs c.args.range (Some c.in-Some.next)) c.leaves.ensures (c.in-Some.ensures.passed sound) in
    passed.each id low (omega (arith, high, c.start_of.ensures))

pub returns-in-None-clause-bare : goal.returns-in-None-clause-bare
returns-in-None-clause-bare g c = λ sound id low high.
    let docs = g.P.Postings.documents c.args.part.now in
    let filters = map filter_tree c.args.filters.now in
    let passed = subst (λ (ls : List LeafTree). IsPassed (query_may filters ls) docs c.args.range None) c.leaves.ensures (c.in-None.ensures.passed sound) in
    passed.each id low tt
