use Rattle.std.proofs.Common.{◌^◌, ◌<◌}
use Rattle.read_ahead.specs.Ahead.{most_of}
use Rattle.script_tests.proofs.docnos.put_lines.Given as goal

abbrev pub invariant-lines : goal.invariant-lines
invariant-lines g l = most_of l.lines.ahead (g.S.Source.can_give l.source) < 2 ^ 64
