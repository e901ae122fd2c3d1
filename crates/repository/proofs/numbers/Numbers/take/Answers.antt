use Rattle.std.proofs.Common.{◌<◌, List, ℕ, ◌+◌, arith, subst, sym}
use Rattle.repository.specs.Numbers.{AreTaken}
use Rattle.repository.proofs.NumberLemmas.{taken-free, taken-turn}
use Rattle.repository.proofs.numbers.Numbers.take.Goals as goal

pub invariant_of-self-then-self : goal.invariant_of-self-then-self
invariant_of-self-then-self c =
    let s = c.self.inside in
    let n = c.in_ok-number.number in
    let small = c.in_ok-number.ensures.below in
    let below : n < s.next = omega (arith, small) in
    subst (λ (ks : List ℕ). AreTaken s.next (n + 1) ks) (sym c.in_ok-insert.ensures.keys) (taken-free s.next s.low n s.taken.keys c.self.invariant c.in_ok-number.ensures.least below)

pub invariant_of-self-2 : goal.invariant_of-self-2
invariant_of-self-2 c =
    let s = c.self.inside in
    subst (λ (ks : List ℕ). AreTaken (s.next + 1) s.low ks) (sym c.in_ok-insert-2.ensures.keys) (taken-turn s.next s.low s.taken.keys c.self.invariant)
