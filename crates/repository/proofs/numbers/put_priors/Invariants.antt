use Rattle.std.proofs.Common.{◌≡◌, take}
use Rattle.manifest.specs.Entries.{with_numbers}
use Rattle.manifest.specs.Listing.{prior_numbers}
use Rattle.repository.proofs.numbers.put_priors.Given as goal

abbrev pub invariant-loop-prior : goal.invariant-loop-prior
invariant-loop-prior l = l.taken.keys ≡ with_numbers l.fn.taken.keys (prior_numbers (take l.prior-index l.priors))
