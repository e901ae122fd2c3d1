use Rattle.std.proofs.Common.{◌≡◌, ◌+◌, length}
use Rattle.std.specs.Option.{option_map}
use Rattle.std.specs.Io.KnownBytes.{prepend_known}
use Rattle.read_ahead.specs.Ahead.{Steps}
use Rattle.line_reader.specs.Texts.{texts_at}
use Rattle.line_reader.proofs.line.LineReader.next_text.Given as goal

abbrev pub invariant-lines : goal.invariant-lines
invariant-lines g l = record {
  texts : option_map (texts_at l.fn.self.ahead.offset) (prepend_known l.fn.self.ahead.bytes (g.S.Source.left l.fn.source)) ≡ option_map (texts_at l.self.ahead.offset) (prepend_known l.self.ahead.bytes (g.S.Source.left l.source));
  none : g.S.Source.faults l.source ≡ g.S.Source.faults l.fn.source;
  steps : Steps g.S.Source.left g.S.Source.layers g.S.Source.held g.S.Source.faults g.S.Source.can_give l.fn.self.ahead l.self.ahead l.fn.source l.source;
}

abbrev pub decreases-lines : goal.decreases-lines
decreases-lines g l = length l.self.ahead.bytes + g.S.Source.can_give l.source
