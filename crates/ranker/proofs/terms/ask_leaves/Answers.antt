use Rattle.query_check.specs.Leaves.{leaf_tree}
use Rattle.ranker.specs.Blocks.{leaf_words}
use Rattle.ranker.proofs.TermLemmas.{told-end, told-more, told-none}
use Rattle.ranker.proofs.terms.ask_leaves.Goals as goal

pub loop-leaf-init : goal.loop-leaf-init
loop-leaf-init c = record { so_far = told-none leaf_tree leaf_words c.args.leaves.now c.args.asked.now.terms.items }

pub loop-leaf-preserved : goal.loop-leaf-preserved
loop-leaf-preserved c = record {
  so_far = told-more leaf_tree leaf_words c.args.leaves.now c.args.asked.now.terms.items c.loop-leaf.leaf-index c.leaf-item.result c.loop-leaf.asked.terms.items c.ask_leaf.new.asked.terms.items
      c.loop-leaf-test.true c.leaf-item.is c.loop-leaf.invariant.so_far c.in_ok-ask_leaf.ensures;
}

pub returns : goal.returns
returns c = told-end leaf_tree leaf_words c.args.leaves.now c.args.asked.now.terms.items c.loop-leaf.leaf-index c.loop-leaf.asked.terms.items c.loop-leaf-test.false c.loop-leaf.invariant.so_far
