use Rattle.std.proofs.Common.{◌∙◌, sym}
use Rattle.read_ahead.proofs.StepsLemmas.{steps_then}
use Rattle.line_reader.proofs.TextLemmas.{texts_end, texts_none, texts_some}
use Rattle.line_reader.proofs.line.LineReader.next_text.Goals as goal

pub returns-then-is_some-clause-texts : goal.returns-then-is_some-clause-texts
returns-then-is_some-clause-texts g c =
    let read = rw c.in-Some.is at c.in_ok-line.ensures.read in
    c.lines.invariant.texts ∙ texts_some c.in-Some.line c.next_line.new.self.text c.lines.self.ahead.offset c.next_line.new.self.ahead.offset _ _ read c.in_ok-line.ensures.steps.same_end (sym c.is_some.ensures ∙ c.if-is_some.true)

pub lines-preserved : goal.lines-preserved
lines-preserved g c =
    let read = rw c.in-Some.is at c.in_ok-line.ensures.read in
    record {
      texts = c.lines.invariant.texts ∙ texts_none c.in-Some.line c.next_line.new.self.text c.lines.self.ahead.offset c.next_line.new.self.ahead.offset _ _ read c.in_ok-line.ensures.steps.same_end (sym c.is_some.ensures ∙ c.if-is_some.false);
      none = c.in_ok-line.ensures.none (λ e. cc) ∙ c.lines.invariant.none;
      steps = steps_then _ _ _ _ _ _ _ _ _ _ _ c.lines.invariant.steps c.in_ok-line.ensures.steps;
    }

pub returns-clause-texts : goal.returns-clause-texts
returns-clause-texts g c =
    let read = rw c.in_default.is at c.in_ok-line.ensures.read in
    c.lines.invariant.texts ∙ texts_end c.lines.self.ahead.offset c.next_line.new.self.ahead.offset _ _ read.0 c.in_ok-line.ensures.steps.same_end

pub returns-in_err-line-clause-steps : goal.returns-in_err-line-clause-steps
returns-in_err-line-clause-steps g c = steps_then g.S.Source.left g.S.Source.layers g.S.Source.held g.S.Source.faults g.S.Source.can_give _ _ _ _ _ _ c.lines.invariant.steps c.in_err-line.ensures.steps

pub returns-then-is_some-clause-steps : goal.returns-then-is_some-clause-steps
returns-then-is_some-clause-steps g c = steps_then g.S.Source.left g.S.Source.layers g.S.Source.held g.S.Source.faults g.S.Source.can_give _ _ _ _ _ _ c.lines.invariant.steps c.in_ok-line.ensures.steps
