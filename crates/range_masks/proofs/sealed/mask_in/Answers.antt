use Rattle.range_masks.proofs.PostingLemmas.{IsMask-block}
use Rattle.range_masks.proofs.sealed.mask_in.Goals as goal

pub returns : goal.returns
returns c =
    IsMask-block c.args.term.now c.args.range c.args.index.now c.term_postings.result.now c.block_of.result.now _ c.term_postings.ensures.same c.block_of.ensures c.mask_of_ids.ensures
