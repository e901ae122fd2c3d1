use Rattle.std.proofs.lemmas.Result.{IfOk-weaker}
use Rattle.extent_lists.proofs.ListingLemmas.{IsListing-lists}
use Rattle.extent_evaluation.proofs.InsideLemmas.{AreInOrder-ascending}
use Rattle.extent_evaluation.proofs.evaluation.extents.Goals as goal

pub returns-clause-exact : goal.returns-clause-exact
returns-clause-exact g c = λ sound. IfOk-weaker _ _ _ (λ v l. IsListing-lists _ v l) (c.evaluated.ensures.exact sound)

pub returns-clause-order : goal.returns-clause-order
returns-clause-order g c = IfOk-weaker _ _ _ (λ v up. AreInOrder-ascending v up) c.evaluated.ensures.ascending
