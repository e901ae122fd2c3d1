use Rattle.std.proofs.Common.{◌+◌, arith}
use Rattle.std.proofs.lemmas.List.Folds.{list_all-map}
use Rattle.ri_base.specs.Query.{FilterTree, filter_tree}
use Rattle.ri_base.specs.declared.query.Filter.{Filter}
use Rattle.range_masks.specs.May.{filter_may}
use Rattle.range_masks.proofs.NextLemmas.{IsPassed-each, IsPassed-each_more, IsPassed-each_none, IsPassed-here, IsPassed-same}
use Rattle.range_masks.proofs.next.next_of_filters.Goals as goal

pub loop-filter-init : goal.loop-filter-init
loop-filter-init g c = record { forward = omega arith; passed = λ sound. IsPassed-here _ _ _ }

pub returns-clause-passed : goal.returns-clause-passed
returns-clause-passed g c = λ sound.
    IsPassed-same _ _ _ _ _ (λ d. list_all-map (λ (f : FilterTree). filter_may f d) filter_tree c.args.filters.now)
    (IsPassed-each _ (λ (f : Filter). filter_may (filter_tree f)) c.args.filters.now c.loop-filter.filter-index _ _ c.loop-filter-test.false (c.loop-filter.invariant.passed sound))

pub loop-filter-preserved : goal.loop-filter-preserved
loop-filter-preserved g c = record {
  forward = omega (arith, c.loop-filter.invariant.forward, c.in-Some.ensures.forward);
  passed = λ sound. IsPassed-each_more _ (λ (f : Filter). filter_may (filter_tree f)) c.args.filters.now c.loop-filter.filter-index c.filter-item.result _ _ _ c.loop-filter-test.true c.filter-item.is (c.loop-filter.invariant.passed sound) (c.in-Some.ensures.passed sound);
}

pub returns-in-None-clause-passed : goal.returns-in-None-clause-passed
returns-in-None-clause-passed g c = λ sound.
    IsPassed-same _ _ _ _ _ (λ d. list_all-map (λ (f : FilterTree). filter_may f d) filter_tree c.args.filters.now)
    (IsPassed-each_none _ (λ (f : Filter). filter_may (filter_tree f)) c.args.filters.now (c.loop-filter.filter-index + 1) _
    (IsPassed-each_more _ (λ (f : Filter). filter_may (filter_tree f)) c.args.filters.now c.loop-filter.filter-index c.filter-item.result _ _ _ c.loop-filter-test.true c.filter-item.is (c.loop-filter.invariant.passed sound) (c.in-None.ensures.passed sound)))
