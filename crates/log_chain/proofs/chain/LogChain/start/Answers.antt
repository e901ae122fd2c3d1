use Rattle.std.proofs.Common.{◌*◌, ◌/◌, ◌%◌, ◌^◌, ◌<◌, arith}
use Rattle.log_chain.proofs.Reached.{reached_fits, start_reached}
use Rattle.log_chain.proofs.chain.LogChain.start.Goals as goal

pub overflow_cast-result : goal.overflow_cast-result
overflow_cast-result c =
    let f = c.args.f in
    let e = c.ilog2-whole.ensures in
    let begun = start_reached f.p f.q c.ilog2-whole.result f.positive f.at_most_one (omega arith) e.power_le e.next_power_gt e.bound in
    let rest : c.from.result * 2 ^ 62 % 2 ^ 128 / (c.from-2.result * 2 ^ c.ilog2-whole.result % 2 ^ 128) < 2 ^ 63 =
    rw (c.from.ensures, c.from-2.ensures) (reached_fits f.positive f.at_most_one f.fits begun).rest in
    omega (arith, rest)

pub invariant_of-result : goal.invariant_of-result
invariant_of-result c =
    let f = c.args.f in
    let e = c.ilog2-whole.ensures in
    rw (c.from.ensures, c.from-2.ensures)
    (start_reached f.p f.q c.ilog2-whole.result f.positive f.at_most_one (omega arith) e.power_le e.next_power_gt e.bound)
