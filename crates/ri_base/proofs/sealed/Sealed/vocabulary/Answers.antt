use Rattle.ri_base.proofs.InversionLemmas.{vocabulary-same}
use Rattle.ri_base.proofs.sealed.Sealed.vocabulary.Goals as goal

pub returns-clause-same : goal.returns-clause-same
returns-clause-same c = vocabulary-same _ _ _ _ _ c.self.invariant c.self.view_is
