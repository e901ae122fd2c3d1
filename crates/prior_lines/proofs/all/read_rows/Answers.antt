use Rattle.std.proofs.Common.{◌∙◌, arith}
use Rattle.read_ahead.proofs.StepsLemmas.{moves_then, steps_move}
use Rattle.prior_lines.proofs.LineLemmas.{followed_next}
use Rattle.prior_lines.proofs.all.read_rows.Goals as goal

pub rows-preserved : goal.rows-preserved
rows-preserved g c =
    let gives = rw c.in-Some.is at c.in_ok-line.ensures.rows in
    record {
      followed = followed_next c.rows.kept c.next_row.new.kept c.rows.refused.items c.note_refusal.new.refused.items c.in-Some.line c.rows.lines.ahead.offset c.next_row.new.lines.ahead.offset _ _ _ c.rows.invariant.followed gives c.in_ok-note_refusal.ensures;
      fits = omega (arith, c.in_ok-line.ensures.steps.same_most, c.rows.invariant.fits);
      none = c.in_ok-line.ensures.none (λ e. cc) ∙ c.rows.invariant.none;
      moves = moves_then _ _ _ _ _ _ c.rows.invariant.moves (steps_move _ _ _ _ _ _ _ _ _ c.in_ok-line.ensures.steps);
    }
