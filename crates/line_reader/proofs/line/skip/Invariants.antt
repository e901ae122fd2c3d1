use Rattle.std.proofs.Common.{◌≡◌, ◌+◌, ◌-◌, length, drop}
use Rattle.std.specs.Option.{option_map}
use Rattle.std.specs.Io.KnownBytes.{prepend_known}
use Rattle.read_ahead.specs.Ahead.{Steps}
use Rattle.line_reader.proofs.line.skip.Given as goal

abbrev pub invariant-pieces : goal.invariant-pieces
invariant-pieces g l = record {
  rest : option_map (drop l.missing) (prepend_known l.ahead.bytes (g.S.Source.left l.source)) ≡ option_map (drop l.count) (prepend_known l.fn.ahead.bytes (g.S.Source.left l.fn.source));
  few : option_map (λ xs. l.missing - length xs) (prepend_known l.ahead.bytes (g.S.Source.left l.source)) ≡ option_map (λ xs. l.count - length xs) (prepend_known l.fn.ahead.bytes (g.S.Source.left l.fn.source));
  offset : l.ahead.offset + l.missing ≡ l.fn.ahead.offset + l.count;
  none : g.S.Source.faults l.source ≡ g.S.Source.faults l.fn.source;
  steps : Steps g.S.Source.left g.S.Source.layers g.S.Source.held g.S.Source.faults g.S.Source.can_give l.fn.ahead l.ahead l.fn.source l.source;
}

abbrev pub decreases-pieces : goal.decreases-pieces
decreases-pieces g l = g.S.Source.can_give l.source
