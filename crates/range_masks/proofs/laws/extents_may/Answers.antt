use Rattle.range_masks.proofs.MayLemmas.{may-Ext}
use Rattle.range_masks.proofs.laws.extents_may.Goals as goal

pub returns : goal.returns
returns c = λ x d b e h. may-Ext d x b e h
