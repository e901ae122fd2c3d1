use Rattle.std.proofs.Common.{arith, zero, suc, ℕ, List, [], ◌∷◌, ◌<◌, length, get_or}
use Rattle.std.specs.Int.{◌∣◌}
use Rattle.std.specs.List.{All}
use Rattle.std.proofs.lemmas.Nat.Gcd.{dvd_refl, dvd_trans, dvd-zero}
use Rattle.query_check.specs.Multiples.{common_divisor}
use Rattle.query_check.proofs.MultipleLemmas.{gcd_is}
use Rattle.query_check.proofs.laws.common_divisor_is_greatest.Goals as goal

-- what divides the greatest common divisor divides each number, at each place
each_at : (d : ℕ) (ws : List ℕ) → d ∣ common_divisor ws → (k e : ℕ) → k < length ws → d ∣ get_or ws k e
unfolding common_divisor
each_at d [] h k e inside = absurd (omega (arith, inside))
each_at d (w ∷ ws) h zero e inside = dvd_trans d h (gcd_is w (common_divisor ws)).0
each_at d (w ∷ ws) h (suc k) e inside = each_at d ws (dvd_trans d h (gcd_is w (common_divisor ws)).1) k e (omega (arith, inside))

pub returns-clause-divides : goal.returns-clause-divides
returns-clause-divides c = λ ws. λ k e inside. each_at (common_divisor ws) ws (dvd_refl (common_divisor ws)) k e inside

all_divided : (ws : List ℕ) (d : ℕ) → All (λ w. d ∣ w) ws → d ∣ common_divisor ws
unfolding common_divisor
all_divided [] d h = dvd-zero d
all_divided (w ∷ ws) d h = (gcd_is w (common_divisor ws)).2 d (h 0 0 (omega arith)) (all_divided ws d (λ k e inside. h (suc k) e (omega (arith, inside))))

pub returns-clause-greatest : goal.returns-clause-greatest
returns-clause-greatest c = λ ws d h. all_divided ws d h
