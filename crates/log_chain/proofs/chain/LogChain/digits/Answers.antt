use Rattle.log_chain.proofs.Bounds.{chain_lower, chain_upper, chain_small}
use Rattle.log_chain.proofs.Reached.{reached_digits, reached_fits}
use Rattle.log_chain.proofs.chain.LogChain.digits.Goals as goal

pub returns-clause-value : goal.returns-clause-value
returns-clause-value c =
    let f = c.self.inside.fraction in
    rw (c.from.ensures, c.from-2.ensures, ← c.self.view_is) (reached_digits f.positive f.at_most_one f.fits c.self.invariant)

pub returns-clause-lower : goal.returns-clause-lower
returns-clause-lower c =
    let f = c.self.inside.fraction in
    let e = reached_digits f.positive f.at_most_one f.fits c.self.invariant in
    rw (c.from.ensures, c.from-2.ensures, ← c.self.view_is, e) (chain_lower _ _ _ f.positive f.at_most_one f.fits)

pub returns-clause-upper : goal.returns-clause-upper
returns-clause-upper c =
    let f = c.self.inside.fraction in
    let e = reached_digits f.positive f.at_most_one f.fits c.self.invariant in
    rw (c.from.ensures, c.from-2.ensures, ← c.self.view_is, e) (chain_upper _ _ _ f.positive f.at_most_one f.fits c.self.invariant.few)

pub returns-clause-few : goal.returns-clause-few
returns-clause-few c =
    let f = c.self.inside.fraction in
    let e = reached_digits f.positive f.at_most_one f.fits c.self.invariant in
    rw (c.from.ensures, c.from-2.ensures, ← c.self.view_is, e) (chain_small _ _ _)

pub returns-clause-small : goal.returns-clause-small
returns-clause-small c =
    let f = c.self.inside.fraction in
    let e = reached_digits f.positive f.at_most_one f.fits c.self.invariant in
    rw (c.from.ensures, c.from-2.ensures, e, ← c.self.invariant.digits) (reached_fits f.positive f.at_most_one f.fits c.self.invariant).digits
