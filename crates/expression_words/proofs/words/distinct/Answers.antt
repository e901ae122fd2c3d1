use Rattle.std.proofs.lemmas.List.Filters.{dedup_is}
use Rattle.expression_words.proofs.DistinctLemmas.{AreDistinct-sorted}
use Rattle.expression_words.proofs.words.distinct.Goals as goal

pub returns : goal.returns
returns c = AreDistinct-sorted _ _ _ c.sort_unstable.ensures.permutation c.sort_unstable.ensures.sorted (dedup_is _ _ _ c.dedup.ensures.filtered)
