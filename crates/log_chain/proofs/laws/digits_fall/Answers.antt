use Rattle.std.proofs.Common.{arith}
use Rattle.log_chain.proofs.Bounds.{chain_apart}
use Rattle.log_chain.proofs.Rises.{chain_digits_rise, chain_rises, chain_same}
use Rattle.log_chain.proofs.laws.digits_fall.Goals as goal

pub returns-clause-smaller : goal.returns-clause-smaller
returns-clause-smaller c = λ h k. chain_digits_rise _ _ _ _ k c.args.g.positive c.args.f.positive (omega arith)

pub returns-clause-same : goal.returns-clause-same
returns-clause-same c = λ h k. chain_same _ _ _ _ k c.args.f.positive c.args.g.positive (omega arith)

pub returns-clause-pairs : goal.returns-clause-pairs
returns-clause-pairs c = λ h k. chain_rises _ _ _ _ k c.args.g.positive c.args.f.positive (omega arith)

pub returns-clause-apart : goal.returns-clause-apart
returns-clause-apart c = λ k few h.
    let less = chain_apart _ _ _ _ k c.args.g.positive c.args.g.at_most_one c.args.g.fits c.args.f.positive c.args.f.at_most_one c.args.f.fits few h in
    omega arith
