use Rattle.std.proofs.Common.{rules, ◌≡◌}
use Rattle.std.proofs.lemmas.List.Sorted.{IsNonDecreasingBy-from_sort_by_key, answers_always}
use Rattle.ri_base.specs.Pair.{Pair}
use Rattle.extent_evaluation.proofs.SortLemmas.{sorted_by_answer}
use Rattle.extent_evaluation.proofs.ordered.by_end.Goals as goal
use Rattle.extent_evaluation.proofs.ordered.by_end.Goals.{then-not-is_sorted_by_key, else-not-is_sorted_by_key}

pub returns-clause-sorted : goal.returns-clause-sorted
returns-clause-sorted c = elim c.if-not-is_sorted_by_key.branch [
  | then-not-is_sorted_by_key w ↦
      rw w.out-is (IsNonDecreasingBy-from_sort_by_key (λ (x : Pair). x.end) _ w.sort_unstable_by_key.ensures.sorted (λ a r f t. search rules))
  | else-not-is_sorted_by_key w ↦
      let is : c.if-not-is_sorted_by_key.out.items ≡ c.args.xs.now = search rules in
      rw is (sorted_by_answer (λ (x : Pair). x.end) c.args.xs.now c.is_sorted_by_key.result (c.is_sorted_by_key.ensures.cases (λ (x : Pair). x.end) (answers_always _ _ _ (λ f a r g t. search rules))) w.if-not-is_sorted_by_key.false)
]
