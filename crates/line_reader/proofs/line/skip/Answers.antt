use Rattle.std.proofs.Common.{◌∙◌, ap, drop, length, ◌-◌, arith}
use Rattle.std.specs.Option.{option_map}
use Rattle.read_ahead.proofs.StepsLemmas.{steps_then}
use Rattle.line_reader.proofs.SkipLemmas.{missing_still, skipped, steps_within}
use Rattle.line_reader.proofs.line.skip.Goals as goal
use Rattle.line_reader.proofs.line.skip.Goals.{then-missing-eq0-via-then-missing-eq0, then-missing-eq0-via-else-missing-eq0+in_ok-fill+then-branch}

pub pieces-preserved : goal.pieces-preserved
pieces-preserved g c = record {
  rest = ap (option_map (drop c.advance_within-missing.result)) c.in_ok-fill.ensures.unread ∙ skipped c.pieces.missing c.advance_within-missing.result c.pieces.ahead.bytes c.advance_within-missing.new.ahead.bytes (g.S.Source.left c.pieces.source) c.advance_within-missing.ensures.rest c.advance_within-missing.ensures.missing ∙ c.pieces.invariant.rest;
  few = ap (option_map (λ xs. c.advance_within-missing.result - length xs)) c.in_ok-fill.ensures.unread ∙ missing_still c.pieces.missing c.advance_within-missing.result c.pieces.ahead.bytes c.advance_within-missing.new.ahead.bytes (g.S.Source.left c.pieces.source) c.advance_within-missing.ensures.rest c.advance_within-missing.ensures.missing ∙ c.pieces.invariant.few;
  offset = omega (arith, c.in_ok-fill.ensures.offset, c.advance_within-missing.ensures.offset, c.pieces.invariant.offset);
  none = c.in_ok-fill.ensures.none (λ e. cc) ∙ c.pieces.invariant.none;
  steps = steps_then _ _ _ _ _ _ _ _ _ _ _ c.pieces.invariant.steps (steps_then _ _ _ _ _ _ _ _ _ _ _ (steps_within g.S.Source.left g.S.Source.layers g.S.Source.held g.S.Source.faults g.S.Source.can_give _ _ c.pieces.missing c.advance_within-missing.result c.pieces.source c.advance_within-missing.ensures.rest c.advance_within-missing.ensures.missing c.advance_within-missing.ensures.offset) c.in_ok-fill.ensures.steps);
}

pub returns-in_err-fill-clause-steps : goal.returns-in_err-fill-clause-steps
returns-in_err-fill-clause-steps g c = steps_then g.S.Source.left g.S.Source.layers g.S.Source.held g.S.Source.faults g.S.Source.can_give _ _ _ _ _ _ c.pieces.invariant.steps (steps_then g.S.Source.left g.S.Source.layers g.S.Source.held g.S.Source.faults g.S.Source.can_give _ _ _ _ _ _ (steps_within g.S.Source.left g.S.Source.layers g.S.Source.held g.S.Source.faults g.S.Source.can_give _ _ c.pieces.missing c.advance_within-missing.result c.pieces.source c.advance_within-missing.ensures.rest c.advance_within-missing.ensures.missing c.advance_within-missing.ensures.offset) c.in_err-fill.ensures.steps)

pub returns-then-missing-eq0-clause-steps : goal.returns-then-missing-eq0-clause-steps
returns-then-missing-eq0-clause-steps g c =
    elim c.then-missing-eq0.branch [
      | then-missing-eq0-via-then-missing-eq0 w ↦ rw (w.ahead-is, w.source-is) (steps_then g.S.Source.left g.S.Source.layers g.S.Source.held g.S.Source.faults g.S.Source.can_give _ _ _ _ _ _ c.pieces.invariant.steps (steps_within g.S.Source.left g.S.Source.layers g.S.Source.held g.S.Source.faults g.S.Source.can_give _ _ c.pieces.missing c.advance_within-missing.result c.pieces.source c.advance_within-missing.ensures.rest c.advance_within-missing.ensures.missing c.advance_within-missing.ensures.offset))
      | then-missing-eq0-via-else-missing-eq0+in_ok-fill+then-branch w ↦ rw (w.ahead-is, w.source-is) (steps_then g.S.Source.left g.S.Source.layers g.S.Source.held g.S.Source.faults g.S.Source.can_give _ _ _ _ _ _ c.pieces.invariant.steps (steps_then g.S.Source.left g.S.Source.layers g.S.Source.held g.S.Source.faults g.S.Source.can_give _ _ _ _ _ _ (steps_within g.S.Source.left g.S.Source.layers g.S.Source.held g.S.Source.faults g.S.Source.can_give _ _ c.pieces.missing c.advance_within-missing.result c.pieces.source c.advance_within-missing.ensures.rest c.advance_within-missing.ensures.missing c.advance_within-missing.ensures.offset) w.in_ok-fill.ensures.steps))
    ]
