use Rattle.std.proofs.Common.{ap, sym, ◌∙◌}
use Rattle.std.specs.Ordering.{is_lt}
use Rattle.first_few.proofs.FirstLemmas.{above_all}
use Rattle.first_few.proofs.few.comes_first.Goals as goal

pub returns-in-Some-clause-no : goal.returns-in-Some-clause-no
returns-in-Some-clause-no g c = λ e. above_all _ g.met.T.Ord.total c.args.item.now c.in-Some.greatest.now _ (ap is_lt (sym c.cmp.ensures) ∙ sym c.is_lt.ensures ∙ e) (c.in-Some.ensures.greatest c.requires.order)
