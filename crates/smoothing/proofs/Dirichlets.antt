-- Sizes of a Dirichlet fraction, whose t is twice the words of the collection and whose b is twice the background.
use Rattle.std.proofs.Common.{ℕ, ◌+◌, ◌*◌, ◌^◌, ◌<◌, ◌≤◌, arith, max, mul-pos, mul-le-mul}
use Rattle.std.proofs.Math.Nat.{mul-le-mul_left}
use Rattle.ri_base.specs.Ratio.{IsBelief}
use Rattle.smoothing.specs.Counts.{AreCounts}
use Rattle.smoothing.specs.Fractions.{IsMu, dirichlet}

-- it isn't 0
pub positive : (t tf mu b : ℕ) → 0 < mu → 0 < b → 0 < t * tf + mu * b
positive t tf mu b pos some = omega (arith, max, mul-pos pos some)

-- it is at most 1
pub at_most_one : (t tf len mu b : ℕ) → tf ≤ len → b ≤ t → t * tf + mu * b ≤ t * (len + mu)
at_most_one t tf len mu b within part = omega (arith, mul-le-mul_left t within, mul-le-mul_left mu part)

-- its numbers are small
pub small : (t len mu : ℕ) → t ≤ 2 ^ 30 → len ≤ 2 ^ 20 → mu ≤ 1000000 → t * (len + mu) < 2 ^ 51
small t len mu few short most =
    let sum : len + mu ≤ 2 ^ 20 + 1000000 = omega arith in
    let all : t * (len + mu) ≤ 2 ^ 30 * (2 ^ 20 + 1000000) = mul-le-mul few sum in
    omega arith

pub dirichlet_small : (mu tf len cf total : ℕ) → IsMu mu → AreCounts tf len cf total → (dirichlet mu tf len cf total).q < 2 ^ 51
dirichlet_small mu tf len cf total m c =
    let few = c.few in small (2 * max total 1) len mu (omega arith) c.short m.most

pub dirichlet_belief : (mu tf len cf total : ℕ) → IsMu mu → AreCounts tf len cf total → IsBelief (dirichlet mu tf len cf total)
dirichlet_belief mu tf len cf total m c =
    let part = c.part in
    record {
      positive = positive (2 * max total 1) tf mu (max (2 * cf) 1) m.least (omega arith);
      at_most_one = at_most_one (2 * max total 1) tf len mu (max (2 * cf) 1) c.within (omega arith);
      fits = omega (arith, dirichlet_small mu tf len cf total m c);
    }
