use Rattle.std.proofs.Common.{◌≡◌, ◌+◌, ◌<◌, ◌≤◌, ◌^◌, length, false, List}
use Rattle.std.specs.Io.KnownBytes.{prepend_known}
use Rattle.read_ahead.specs.Ahead.{most_of}
use Rattle.trec_reader.specs.declared.document.RawDoc.{RawDoc}
use Rattle.command_pieces.specs.Pieces.{some_refused}
use Rattle.command_pieces.specs.Written.{AllWritten}
use Rattle.document_handlers.specs.Work.{Work, behind_all, document_pieces}
use Rattle.document_handlers.proofs.Following.{AreFollowed}
use Rattle.document_handlers.proofs.documents.take_documents.Given as goal

abbrev pub invariant-documents : goal.invariant-documents
invariant-documents g l = (done : List RawDoc) × record {
  followed : AreFollowed done l.reader.ahead.offset (prepend_known l.reader.ahead.bytes (g.S.Source.left l.source)) (g.S.Source.left l.fn.source);
  work : (w : Work) → g.H.Handler.does l.fn.handler w → g.H.Handler.does l.handler (behind_all w done);
  whole : g.H.Handler.is_whole l.handler;
  refused : (w : Work) → g.H.Handler.does l.fn.handler w → l.some_refused ≡ some_refused (document_pieces w done);
  finished : (w : Work) → g.H.Handler.does l.fn.handler w → AllWritten (document_pieces w done) (g.K.Sink.taken l.fn.sink) (g.K.Sink.taken l.sink);
  begun : l.reader.is_ended ≡ false;
  fits : most_of l.reader.ahead (g.S.Source.can_give l.source) < 2 ^ 64;
  layers : g.S.Source.layers l.source ≡ g.S.Source.layers l.fn.source;
  held : g.S.Source.held l.source ≡ g.S.Source.held l.fn.source;
  read_later : g.S.Source.faults l.fn.source ≤ g.S.Source.faults l.source;
  write_later : g.K.Sink.faults l.fn.sink ≤ g.K.Sink.faults l.sink;
  read_same : g.S.Source.faults l.source ≡ g.S.Source.faults l.fn.source;
  write_same : g.K.Sink.faults l.sink ≡ g.K.Sink.faults l.fn.sink;
}

abbrev pub decreases-documents : goal.decreases-documents
decreases-documents g l = length l.reader.ahead.bytes + g.S.Source.can_give l.source
