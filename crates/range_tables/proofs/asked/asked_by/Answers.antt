use Rattle.range_tables.specs.Asks.{leaf_names, leaf_words}
use Rattle.range_tables.proofs.TableLemmas.{asked_all, asked_more}
use Rattle.range_tables.proofs.asked.asked_by.Goals as goal

pub loop-leaf-preserved : goal.loop-leaf-preserved
loop-leaf-preserved c = record {
  terms = asked_more leaf_words c.args.leaves.now c.loop-leaf.leaf-index c.leaf-item.result _ _ c.loop-leaf-test.true c.leaf-item.is c.loop-leaf.invariant.terms c.in_ok-ask_leaf.ensures.terms;
  names = asked_more leaf_names c.args.leaves.now c.loop-leaf.leaf-index c.leaf-item.result _ _ c.loop-leaf-test.true c.leaf-item.is c.loop-leaf.invariant.names c.in_ok-ask_leaf.ensures.names;
}

pub returns-clause-terms : goal.returns-clause-terms
returns-clause-terms c = asked_all leaf_words c.args.leaves.now c.loop-leaf.leaf-index _ c.loop-leaf-test.false c.loop-leaf.invariant.terms

pub returns-clause-names : goal.returns-clause-names
returns-clause-names c = asked_all leaf_names c.args.leaves.now c.loop-leaf.leaf-index _ c.loop-leaf-test.false c.loop-leaf.invariant.names
