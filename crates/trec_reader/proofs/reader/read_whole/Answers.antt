use Rattle.std.proofs.Common.{rules, ◌≡◌, subst}
use Rattle.read_ahead.specs.Ahead.{Steps}
use Rattle.read_ahead.proofs.StepsLemmas.{steps_ahead, steps_then}
use Rattle.std.proofs.lemmas.Result.{err_from_is_err_and}
use Rattle.trec_reader.specs.Read.{document_at}
use Rattle.trec_reader.proofs.Faults.{fault_gives, fault_rose, fault_stays}
use Rattle.trec_reader.proofs.reader.read_whole.Goals as goal

pub returns-in-Some-clause-steps : goal.returns-in-Some-clause-steps
returns-in-Some-clause-steps g c =
    let read = c.in-Some.ensures.advances in
    steps_then g.S.Source.left g.S.Source.layers g.S.Source.held g.S.Source.faults g.S.Source.can_give _ _ _ _ _ _ c.windows.invariant.3 (steps_ahead g.S.Source.left g.S.Source.layers g.S.Source.held g.S.Source.faults g.S.Source.can_give _ _ read.0 c.windows.source read.1 read.2 read.3)

pub returns-in_err-ended-clause-steps : goal.returns-in_err-ended-clause-steps
returns-in_err-ended-clause-steps g c =
    let same : c.if-ended.ahead ≡ c.windows.ahead = search rules in
    steps_then g.S.Source.left g.S.Source.layers g.S.Source.held g.S.Source.faults g.S.Source.can_give _ _ _ _ _ _ c.windows.invariant.3 (subst (λ a. Steps g.S.Source.left g.S.Source.layers g.S.Source.held g.S.Source.faults g.S.Source.can_give a c.fill.new.self c.windows.source c.fill.new.source) same c.fill.ensures.steps)

pub windows-preserved : goal.windows-preserved
windows-preserved g c =
    let same : c.if-ended.ahead ≡ c.windows.ahead = search rules in
    let steps = steps_then g.S.Source.left g.S.Source.layers g.S.Source.held g.S.Source.faults g.S.Source.can_give _ _ _ _ _ _ c.windows.invariant.3 (subst (λ a. Steps g.S.Source.left g.S.Source.layers g.S.Source.held g.S.Source.faults g.S.Source.can_give a c.fill.new.self c.windows.source c.fill.new.source) same c.fill.ensures.steps) in
    (search rules, search rules, search rules, steps, search rules, search rules, search rules, search rules)

pub returns-in_err-ended-clause-read : goal.returns-in_err-ended-clause-read
returns-in_err-ended-clause-read g c =
    let p = err_from_is_err_and c.from_residual.result c.from_residual.ensures.1 in
    rw p.1 (fault_gives document_at c.in_err-ended.field-0.0 p.0 _ _ _ p.2)

pub returns-in_err-ended-clause-failed : goal.returns-in_err-ended-clause-failed
returns-in_err-ended-clause-failed g c =
    let p = err_from_is_err_and c.from_residual.result c.from_residual.ensures.1 in
    rw p.1 (fault_rose c.in_err-ended.field-0.0 p.0 _ _ p.2 (rw c.windows.invariant.5 at c.in_err-ended.ensures.failed))

pub returns-in_err-ended-clause-none : goal.returns-in_err-ended-clause-none
returns-in_err-ended-clause-none g c =
    let p = err_from_is_err_and c.from_residual.result c.from_residual.ensures.1 in
    rw p.1 (fault_stays c.in_err-ended.field-0.0 p.0 _ _ p.2 (rw c.windows.invariant.5 at c.in_err-ended.ensures.none))
