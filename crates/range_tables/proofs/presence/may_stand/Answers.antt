use Rattle.std.proofs.Common.{◌<◌, ◌≤◌, Some, None, nat_eq, ⊎_elim, arith}
use Rattle.std.proofs.lemmas.Bool.{both_ways, cases_lt, eq-eqb}
use Rattle.range_tables.proofs.AbsentLemmas.{none_there}
use Rattle.range_tables.proofs.presence.may_stand.Goals as goal

pub returns-in-Some : goal.returns-in-Some
returns-in-Some g c = λ sound other.
    let next = c.in-Some.next in
    let range = c.args.range in
    let later : range < next = ⊎_elim
    (λ (h : range < next). h)
    (λ (h : next ≤ range). absurd (both_ways (nat_eq next range) other (eq-eqb next range (omega (arith, h, c.in-Some.ensures.forward)))))
    (cases_lt range next) in
    none_there (g.P.Postings.documents c.args.part.now) range c.args.term.now (Some next) (c.in-Some.ensures.passed sound) later

pub returns-in-None : goal.returns-in-None
returns-in-None g c = λ sound e. none_there (g.P.Postings.documents c.args.part.now) c.args.range c.args.term.now None (c.in-None.ensures.passed sound) tt
