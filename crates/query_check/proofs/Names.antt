-- The place of a name among the priors.
use Rattle.std.proofs.Common.{◌≡◌, ℕ, List, Some, length, ◌<◌, Bool, arith}
use Rattle.std.specs.Prelude.{position}
use Rattle.std.proofs.lemmas.Bool.Decides.{nat_tests}

pub place_below : (p : List ℕ → Bool) (xs : List (List ℕ)) (i : ℕ) → position p xs ≡ Some i → i < length xs
place_below p xs i h = grind (arith, nat_tests)
