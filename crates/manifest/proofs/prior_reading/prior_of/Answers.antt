use Rattle.std.proofs.Common.{arith}
use Rattle.manifest.proofs.PriorLaws.{prior_takes, whole_prior}
use Rattle.manifest.proofs.prior_reading.prior_of.Goals as goal

pub of-requires : goal.of-requires
of-requires c = (prior_takes c.args.bytes.now _ (record { small = λ i. omega (arith, c.type_inv.bytes i) }) (whole_prior c.args.bytes.now _ c.in_ok-fraction.behind.now c.in_ok-fraction.ensures (omega arith))).1
