use Rattle.log_chain.proofs.Bounds.{chain_lower, chain_upper, chain_nearly, whole_lower, whole_upper}
use Rattle.log_chain.proofs.laws.digits_enclose.Goals as goal

pub returns-clause-lower : goal.returns-clause-lower
returns-clause-lower c = λ k. chain_lower _ _ k c.args.f.positive c.args.f.at_most_one c.args.f.fits

pub returns-clause-upper : goal.returns-clause-upper
returns-clause-upper c = λ k h. chain_upper _ _ k c.args.f.positive c.args.f.at_most_one c.args.f.fits h

pub returns-clause-nearly : goal.returns-clause-nearly
returns-clause-nearly c = λ k. chain_nearly _ _ k c.args.f.positive c.args.f.at_most_one c.args.f.fits

pub returns-clause-whole : goal.returns-clause-whole
returns-clause-whole c = whole_lower _ _ c.args.f.at_most_one

pub returns-clause-next_whole : goal.returns-clause-next_whole
returns-clause-next_whole c = whole_upper _ _ c.args.f.positive c.args.f.fits
