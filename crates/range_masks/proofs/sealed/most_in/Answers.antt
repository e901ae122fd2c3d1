use Rattle.range_masks.proofs.MostLemmas.{most_of_run}
use Rattle.range_masks.proofs.sealed.most_in.Goals as goal

pub longest_run-requires : goal.longest_run-requires
longest_run-requires c = c.block_of.ensures.rising

pub returns : goal.returns
returns c =
    most_of_run c.args.term.now c.args.range c.args.index.now c.term_postings.result.now c.block_of.result.now c.term_postings.ensures.same c.block_of.ensures c.longest_run.result c.longest_run.ensures
