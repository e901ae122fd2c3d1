-- A store goes on over calls that stand one behind the other.
use Rattle.std.proofs.Common.{ℕ, List, Option, refl, ◌∙◌, arith}
use Rattle.store_ends.specs.Files.{Files, GoesOn}

module _ {S : Type 0} (layers : S → Option (List Files)) (clock : S → ℕ) (longest : S → ℕ) (held : S → List ℕ) where
  pub going-same : (x : S) → GoesOn layers clock longest held x x
  going-same x = record { same_layers = refl; same_longest = refl; same_held = refl; later = omega arith }

  pub going-then : (x y z : S) → GoesOn layers clock longest held x y → GoesOn layers clock longest held y z → GoesOn layers clock longest held x z
  going-then x y z first second = record {
    same_layers = second.same_layers ∙ first.same_layers;
    same_longest = second.same_longest ∙ first.same_longest;
    same_held = second.same_held ∙ first.same_held;
    later = (let a = first.later in let b = second.later in omega (arith, a, b));
  }
