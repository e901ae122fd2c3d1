use Rattle.std.proofs.Common.{◌≤◌, ◌∙◌, ap, length, subst}
use Rattle.ri_base.specs.declared.limits.TheConstants.{MAX_PRIORS}
use Rattle.repository.specs.States.{State}
use Rattle.repository.proofs.PriorLemmas.{few-kept}
use Rattle.repository.proofs.Views.{seen}
use Rattle.repository.proofs.repository.Repository.priors.Goals as goal

pub returns-clause-few : goal.returns-clause-few
returns-clause-few c = λ usable.
    let view = seen c.self.view_is in
    subst (λ (x : State). length x.priors ≤ MAX_PRIORS) c.self.view_is (few-kept view (c.self.invariant.0 (ap (λ (x : State). x.usable) c.self.view_is ∙ usable)))
