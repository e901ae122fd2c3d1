use Rattle.std.proofs.Common.{◌≡◌, ◌≤◌, take}
use Rattle.command_pieces.specs.Written.{AllWritten}
use Rattle.collection_commands.specs.RowRefusals.{row_pieces}
use Rattle.collection_commands.proofs.rows.write_rows.Given as goal

abbrev pub invariant-loop-line : goal.invariant-loop-line
invariant-loop-line g l = record {
  written : AllWritten (row_pieces (take l.line-index l.lines)) (g.K.Sink.taken l.fn.sink) (g.K.Sink.taken l.sink);
  later : g.K.Sink.faults l.fn.sink ≤ g.K.Sink.faults l.sink;
  same : g.K.Sink.faults l.sink ≡ g.K.Sink.faults l.fn.sink;
}
