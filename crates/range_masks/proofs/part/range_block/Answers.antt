use Rattle.disk_index.proofs.ReadableLemmas.{IsTermReadable-origin}
use Rattle.range_masks.proofs.part.range_block.Goals as goal

pub returns-clause-told : goal.returns-clause-told
returns-clause-told g c = IsTermReadable-origin (g.T.Store.files c.args.store.now) c.args.cache.now c.args.index.now c.args.term.now c.args.range c.block.result c.block.ensures.origin
