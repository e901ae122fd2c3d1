use Rattle.std.proofs.Common.{◌≡◌, ◌+◌, ◌<◌, ◌^◌, length, true, List, Option}
use Rattle.std.specs.Io.KnownBytes.{prepend_known}
use Rattle.read_ahead.specs.Ahead.{most_of}
use Rattle.store_ends.specs.Files.{Files}
use Rattle.command_pieces.specs.Pieces.{some_refused}
use Rattle.command_pieces.specs.Written.{AllWritten}
use Rattle.docno_lines.specs.declared.docno.DocnoLine.{DocnoLine}
use Rattle.repository.specs.Stands.{Collection}
use Rattle.repository.specs.States.{IsBacked, ReadsAs}
use Rattle.collection_commands.specs.Deletions.{behind_lines, line_pieces}
use Rattle.collection_commands.proofs.Following.{AreFollowed}
use Rattle.collection_commands.proofs.lines.take_docnos.Given as goal

abbrev pub invariant-docnos : goal.invariant-docnos
invariant-docnos g l = (done : List DocnoLine) × record {
  followed : AreFollowed done l.lines.ahead.offset (prepend_known l.lines.ahead.bytes (g.S.Source.left l.source)) (g.S.Source.left l.fn.source);
  reads : (told : Option Files) (c : Collection) → ReadsAs told l.fn.repository c → ReadsAs told l.repository (behind_lines c done);
  refused : (told : Option Files) (c : Collection) → ReadsAs told l.fn.repository c → l.some_refused ≡ some_refused (line_pieces c done);
  written : (told : Option Files) (c : Collection) → ReadsAs told l.fn.repository c → AllWritten (line_pieces c done) (g.K.Sink.taken l.fn.sink) (g.K.Sink.taken l.sink);
  backed : (told : Option Files) → IsBacked told l.fn.repository → IsBacked told l.repository;
  limits : l.repository.held.limits ≡ l.fn.repository.held.limits;
  usable : l.repository.usable ≡ true;
  fits : most_of l.lines.ahead (g.S.Source.can_give l.source) < 2 ^ 64;
  layers : g.S.Source.layers l.source ≡ g.S.Source.layers l.fn.source;
  held : g.S.Source.held l.source ≡ g.S.Source.held l.fn.source;
  read_same : g.S.Source.faults l.source ≡ g.S.Source.faults l.fn.source;
  write_same : g.K.Sink.faults l.sink ≡ g.K.Sink.faults l.fn.sink;
}

abbrev pub decreases-docnos : goal.decreases-docnos
decreases-docnos g l = length l.lines.ahead.bytes + g.S.Source.can_give l.source
