use Rattle.std.proofs.Common.{◌++◌}
use Rattle.manifest.specs.Listing.{prior_numbers}
use Rattle.repository.specs.States.{part_numbers}
use Rattle.repository.proofs.NumberLemmas.{numbers-put, taken-listed}
use Rattle.repository.proofs.numbers.Numbers.of.Goals as goal

pub invariant_of-result : goal.invariant_of-result
invariant_of-result c =
    let parts = part_numbers c.args.parts.now in
    let priors = prior_numbers c.args.priors.now in
    taken-listed c.args.next c.put_priors.new.taken.keys (parts ++ (c.args.stale.now ++ priors)) c.requires.some
    (numbers-put c.new-taken.result.keys c.put_parts.new.taken.keys c.put_stale.new.taken.keys c.put_priors.new.taken.keys parts c.args.stale.now priors c.new-taken.ensures.empty c.in_ok-put_parts.ensures c.in_ok-put_stale.ensures
    c.in_ok-put_priors.ensures) c.requires.numbered

pub returns-clause-numbers : goal.returns-clause-numbers
returns-clause-numbers c =
    numbers-put c.new-taken.result.keys c.put_parts.new.taken.keys c.put_stale.new.taken.keys c.put_priors.new.taken.keys (part_numbers c.args.parts.now) c.args.stale.now (prior_numbers c.args.priors.now) c.new-taken.ensures.empty
    c.in_ok-put_parts.ensures c.in_ok-put_stale.ensures c.in_ok-put_priors.ensures
