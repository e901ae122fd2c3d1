use Rattle.std.proofs.Common.{◌*◌, ◌^◌, ◌<◌, arith}
use Rattle.log_chain.proofs.Reached.{reached_fits, extended_small, extended_large}
use Rattle.log_chain.proofs.chain.LogChain.extend.Goals as goal
use Rattle.log_chain.proofs.chain.LogChain.extend.Goals.{then-square, else-square}

pub overflow_mul-square : goal.overflow_mul-square
overflow_mul-square g c =
    let f = c.self.inside.fraction in
    let square : c.from.result * c.from-2.result < 2 ^ 126 = rw (c.from.ensures, c.from-2.ensures) (reached_fits f.positive f.at_most_one f.fits c.self.invariant).square in
    omega (arith, square)

pub overflow_mul-self : goal.overflow_mul-self
overflow_mul-self g c =
    let f = c.self.inside.fraction in
    omega (arith, (reached_fits f.positive f.at_most_one f.fits c.self.invariant).next (rw (← c.self.view_is) at c.requires))

pub overflow_mul-self-else-square : goal.overflow_mul-self-else-square
overflow_mul-self-else-square g c =
    let f = c.self.inside.fraction in
    omega (arith, (reached_fits f.positive f.at_most_one f.fits c.self.invariant).next (rw (← c.self.view_is) at c.requires))

pub overflow_add-self : goal.overflow_add-self
overflow_add-self g c =
    let f = c.self.inside.fraction in
    omega (arith, (reached_fits f.positive f.at_most_one f.fits c.self.invariant).next (rw (← c.self.view_is) at c.requires))

pub invariant_of-self : goal.invariant_of-self
invariant_of-self g c =
    let less = rw (← c.self.view_is) at c.requires in
    elim c.if-square.branch [
      | then-square w ↦ rw (w.self-inside-is, c.from.ensures, c.from-2.ensures) (extended_small _ _ _ _ _ _ less c.self.invariant (rw (c.from.ensures, c.from-2.ensures) at w.if-square.true))
      | else-square w ↦ rw (w.self-inside-is, c.from.ensures, c.from-2.ensures) (extended_large _ _ _ _ _ _ less c.self.invariant (rw (c.from.ensures, c.from-2.ensures) at w.if-square.false))
    ]

pub overflow_cast-self-else-square-2 : goal.overflow_cast-self-else-square-2
overflow_cast-self-else-square-2 g c =
    let f = c.self.inside.fraction in
    let square : c.from.result * c.from-2.result < 2 ^ 126 = rw (c.from.ensures, c.from-2.ensures) (reached_fits f.positive f.at_most_one f.fits c.self.invariant).square in
    omega (arith, square)
