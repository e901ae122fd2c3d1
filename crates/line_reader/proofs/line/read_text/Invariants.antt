use Rattle.std.proofs.Common.{◌≡◌, ◌≤◌, ◌+◌, ◌<◌, ◌++◌, length, vec_len}
use Rattle.std.specs.Option.{option_map}
use Rattle.std.specs.List.{before_first}
use Rattle.std.specs.Io.KnownBytes.{prepend_known}
use Rattle.read_ahead.specs.Ahead.{Steps}
use Rattle.line_reader.specs.Lines.{behind_line, is_feed, kept}
use Rattle.line_reader.specs.declared.line.TheConstants.{KEPT_BYTES}
use Rattle.line_reader.proofs.line.read_text.Given as goal

abbrev pub invariant-pieces : goal.invariant-pieces
invariant-pieces g l = record {
  few : vec_len l.text ≤ KEPT_BYTES;
  text : option_map (λ xs. kept (l.text.items ++ before_first is_feed xs)) (prepend_known l.ahead.bytes (g.S.Source.left l.source)) ≡ option_map (λ xs. kept (l.fn.text.items ++ before_first is_feed xs)) (prepend_known l.fn.ahead.bytes (g.S.Source.left l.fn.source));
  rest : option_map behind_line (prepend_known l.ahead.bytes (g.S.Source.left l.source)) ≡ option_map behind_line (prepend_known l.fn.ahead.bytes (g.S.Source.left l.fn.source));
  steps : Steps g.S.Source.left g.S.Source.layers g.S.Source.held g.S.Source.faults g.S.Source.can_give l.fn.ahead l.ahead l.fn.source l.source;
  none : g.S.Source.faults l.source ≡ g.S.Source.faults l.fn.source;
  moves : 0 < length l.fn.ahead.bytes → l.fn.ahead.offset < l.ahead.offset + length l.ahead.bytes;
}

abbrev pub decreases-pieces : goal.decreases-pieces
decreases-pieces g l = g.S.Source.can_give l.source
