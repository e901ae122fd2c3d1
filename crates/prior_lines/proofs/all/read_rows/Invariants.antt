use Rattle.std.proofs.Common.{◌≡◌, ◌+◌, ◌^◌, ◌<◌, length, []}
use Rattle.std.specs.Option.{option_map}
use Rattle.std.specs.Io.KnownBytes.{prepend_known}
use Rattle.read_ahead.specs.Ahead.{Moves, most_of}
use Rattle.prior_lines.specs.Rows.{none_kept, outcome_at, refused_of}
use Rattle.prior_lines.proofs.all.read_rows.Given as goal

abbrev pub invariant-rows : goal.invariant-rows
invariant-rows g l = record {
  followed : option_map (λ rest. refused_of l.refused.items (outcome_at l.kept l.lines.ahead.offset rest)) (prepend_known l.lines.ahead.bytes (g.S.Source.left l.source)) ≡ option_map (λ bytes. refused_of [] (outcome_at none_kept 0 bytes)) (g.S.Source.left l.fn.source);
  fits : most_of l.lines.ahead (g.S.Source.can_give l.source) < 2 ^ 64;
  none : g.S.Source.faults l.source ≡ g.S.Source.faults l.fn.source;
  moves : Moves g.S.Source.layers g.S.Source.held g.S.Source.faults l.fn.source l.source;
}

abbrev pub decreases-rows : goal.decreases-rows
decreases-rows g l = length l.lines.ahead.bytes + g.S.Source.can_give l.source
