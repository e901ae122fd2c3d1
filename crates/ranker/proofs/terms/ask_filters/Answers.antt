use Rattle.ri_base.specs.Query.{filter_tree}
use Rattle.ranker.specs.Blocks.{filter_words}
use Rattle.ranker.proofs.TermLemmas.{told-end, told-more, told-none}
use Rattle.ranker.proofs.terms.ask_filters.Goals as goal

pub loop-filter-init : goal.loop-filter-init
loop-filter-init c = record { so_far = told-none filter_tree filter_words c.args.filters.now c.args.asked.now.terms.items }

pub loop-filter-preserved : goal.loop-filter-preserved
loop-filter-preserved c = record {
  so_far = told-more filter_tree filter_words c.args.filters.now c.args.asked.now.terms.items c.loop-filter.filter-index c.filter-item.result c.loop-filter.asked.terms.items c.ask.new.asked.terms.items
      c.loop-filter-test.true c.filter-item.is c.loop-filter.invariant.so_far c.in_ok-ask.ensures.terms;
}

pub returns : goal.returns
returns c = told-end filter_tree filter_words c.args.filters.now c.args.asked.now.terms.items c.loop-filter.filter-index c.loop-filter.asked.terms.items c.loop-filter-test.false c.loop-filter.invariant.so_far
