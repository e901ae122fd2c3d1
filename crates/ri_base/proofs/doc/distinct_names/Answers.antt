use Rattle.std.proofs.lemmas.List.Filters.{dedup_is}
use Rattle.ri_base.proofs.NamesLemmas.{AreNames-sorted}
use Rattle.ri_base.proofs.doc.distinct_names.Goals as goal

pub returns : goal.returns
returns c = AreNames-sorted _ _ _ _ c.in_ok-names.ensures c.sort_unstable.ensures.permutation c.sort_unstable.ensures.sorted (dedup_is _ _ _ c.dedup.ensures.filtered)
