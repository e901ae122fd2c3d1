use Rattle.std.proofs.Common.{map}
use Rattle.ri_base.specs.Query.{filter_tree}
use Rattle.query_check.specs.Leaves.{leaf_tree}
use Rattle.range_masks.specs.May.{filters_may, some_may}
use Rattle.range_masks.proofs.MaskLemmas.{IsMask-and, IsMask-both_none}
use Rattle.range_masks.proofs.query.query_mask.Goals as goal

pub returns-then-occurring-eq0-clause-exact : goal.returns-then-occurring-eq0-clause-exact
returns-then-occurring-eq0-clause-exact g c = λ sound.
    IsMask-both_none _ _ (some_may (map leaf_tree c.args.leaves.now)) (filters_may (map filter_tree c.args.filters.now)) _ c.if-occurring-eq0.true (c.in_ok-occurring.ensures.exact sound)

pub returns-clause-exact : goal.returns-clause-exact
returns-clause-exact g c = λ sound.
    let keeps = c.in_ok-occurring.ensures.keeps in
    IsMask-and _ _ (some_may (map leaf_tree c.args.leaves.now)) (filters_may (map filter_tree c.args.filters.now)) _ _ (c.in_ok-occurring.ensures.exact sound)
    (rw keeps.documents_stay at (c.in_ok-passing.ensures.exact (keeps.sound_stays sound)))
