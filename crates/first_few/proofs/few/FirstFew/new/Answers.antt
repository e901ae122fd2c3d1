use Rattle.std.proofs.Common.{sym, subst}
use Rattle.first_few.proofs.FirstLemmas.{AreFirst-none}
use Rattle.first_few.specs.First.{AreFirst}
use Rattle.first_few.proofs.few.FirstFew.new.Goals as goal

pub returns-clause-first : goal.returns-clause-first
returns-clause-first g c = subst (AreFirst g.T.Ord.cmp c.args.most _) (sym c.new.ensures.items) (AreFirst-none _ c.args.most)
