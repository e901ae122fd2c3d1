-- what a test of order tells
use Rattle.std.proofs.Common.{◌≡◌, ℕ, Bool, true, false, Some, List, sym}
use Rattle.std.specs.List.{IsAllAdjacentAnswer}
use Rattle.std.specs.List.Sorted.{IsNonDecreasingBy}
use Rattle.std.specs.Ordering.{nat_cmp, partial_le}
use Rattle.std.proofs.lemmas.Bool.{true≢false}
use Rattle.std.proofs.lemmas.List.Sorted.{IsNonDecreasingBy-from_all_adjacent}
use Rattle.std.proofs.lemmas.Map.Keys.{le_from_is_le}
use Rattle.ri_base.specs.Pair.{Pair}

pub sorted_by_answer : (n : Pair → ℕ) (xs : List Pair) (r : Bool) → IsAllAdjacentAnswer (λ x y b. b ≡ partial_le (λ v w. Some (nat_cmp v w)) (n x) (n y)) xs r → r ≡ true → IsNonDecreasingBy n xs
sorted_by_answer n xs true h e = IsNonDecreasingBy-from_all_adjacent n xs (λ k d l. le_from_is_le _ _ (sym (h k d l)))
sorted_by_answer n xs false h e = absurd (true≢false (sym e))
