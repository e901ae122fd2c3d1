use Rattle.std.proofs.Common.{rules, ◌≡◌, true}
use Rattle.std.proofs.lemmas.List.Sorted.{IsNonDecreasingBy-from_sort_by_key, answers_always}
use Rattle.ri_base.specs.Pair.{Pair}
use Rattle.extent_evaluation.proofs.SortLemmas.{sorted_by_answer}
use Rattle.extent_evaluation.proofs.ordered.sort_by_begin.Goals as goal

pub returns-then-not-is_sorted_by_key-clause-sorted :
    goal.returns-then-not-is_sorted_by_key-clause-sorted
returns-then-not-is_sorted_by_key-clause-sorted c =
    IsNonDecreasingBy-from_sort_by_key (λ (x : Pair). x.begin) _ c.sort_unstable_by_key.ensures.sorted (λ a r f t. search rules)

pub returns-else-not-is_sorted_by_key-clause-sorted :
    goal.returns-else-not-is_sorted_by_key-clause-sorted
returns-else-not-is_sorted_by_key-clause-sorted c =
    let yes : c.is_sorted_by_key.result ≡ true = search rules in
    rw c.deref.ensures.value at (sorted_by_answer (λ (x : Pair). x.begin) _ c.is_sorted_by_key.result (c.is_sorted_by_key.ensures.cases (λ (x : Pair). x.begin) (answers_always _ _ _ (λ f a r g t. search rules))) yes)
