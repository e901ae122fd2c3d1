use Rattle.std.proofs.Common.{add-one}
use Rattle.log_chain.proofs.Bounds.{chain_half, chain_leading, chain_small}
use Rattle.log_chain.proofs.laws.digits_lead.Goals as goal

pub returns-clause-half : goal.returns-clause-half
returns-clause-half c = λ k. rw add-one (chain_half _ _ k)

pub returns-clause-leading : goal.returns-clause-leading
returns-clause-leading c = λ k s. chain_leading _ _ k s

pub returns-clause-few : goal.returns-clause-few
returns-clause-few c = λ k. chain_small _ _ k
