use Rattle.std.proofs.Common.{ap, subst}
use Rattle.read_ahead.proofs.StepsLemmas.{steps_then}
use Rattle.read_ahead.specs.Ahead.{Steps}
use Rattle.line_reader.proofs.line.LineReader.next_line.Goals as goal

pub returns-in_err-read_line-clause-steps : goal.returns-in_err-read_line-clause-steps
returns-in_err-read_line-clause-steps g c =
    subst (λ a. Steps g.S.Source.left g.S.Source.layers g.S.Source.held g.S.Source.faults g.S.Source.can_give a c.read_line.new.ahead c.args.source.now c.read_line.new.source) (ap (λ r. r.ahead) c.self.view_is)
    (steps_then g.S.Source.left g.S.Source.layers g.S.Source.held g.S.Source.faults g.S.Source.can_give _ _ _ _ _ _ c.in_ok-has_next.ensures.steps c.in_err-read_line.ensures.steps)

pub returns-in_ok-read_line-clause-steps : goal.returns-in_ok-read_line-clause-steps
returns-in_ok-read_line-clause-steps g c =
    subst (λ a. Steps g.S.Source.left g.S.Source.layers g.S.Source.held g.S.Source.faults g.S.Source.can_give a c.read_line.new.ahead c.args.source.now c.read_line.new.source) (ap (λ r. r.ahead) c.self.view_is)
    (steps_then g.S.Source.left g.S.Source.layers g.S.Source.held g.S.Source.faults g.S.Source.can_give _ _ _ _ _ _ c.in_ok-has_next.ensures.steps c.in_ok-read_line.ensures.steps)
