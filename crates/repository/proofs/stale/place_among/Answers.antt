use Rattle.std.proofs.Common.{◌∙◌, sym}
use Rattle.repository.proofs.StaleLemmas.{place-none, place-some}
use Rattle.repository.proofs.stale.place_among.Goals as goal

pub returns-in-Some-clause-place : goal.returns-in-Some-clause-place
returns-in-Some-clause-place c = (place-some c.args.number c.args.numbers.now c.in-Some.place (sym c.first_from.ensures ∙ c.in-Some.is)).0

pub returns-in-Some-clause-bound : goal.returns-in-Some-clause-bound
returns-in-Some-clause-bound c = (place-some c.args.number c.args.numbers.now c.in-Some.place (sym c.first_from.ensures ∙ c.in-Some.is)).1

pub returns-in-None-clause-place : goal.returns-in-None-clause-place
returns-in-None-clause-place c = place-none c.args.number c.args.numbers.now (sym c.first_from.ensures ∙ c.in-None.is)
