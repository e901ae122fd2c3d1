use Rattle.std.proofs.Common.{rules, ◌≡◌, [], ◌∷◌, ◌++◌, ◌∙◌, List, subst}
use Rattle.command_pieces.specs.Faults.{IsCut}
use Rattle.command_pieces.specs.Pieces.{some_refused}
use Rattle.command_pieces.specs.Written.{AllWritten}
use Rattle.command_pieces.specs.declared.fault.Fault.TheVariants as fault
use Rattle.docno_lines.specs.declared.docno.DocnoLine.{DocnoLine}
use Rattle.repository.specs.States.{ReadsAs}
use Rattle.collection_commands.specs.Deletions.{behind_lines, line_pieces}
use Rattle.collection_commands.proofs.Following.{all-done, behind-next, behind-none, cut-here, cut-next, followed-more, followed-start, refused-next, refused-start, some-done, written-next, written-start}
use Rattle.collection_commands.proofs.lines.take_docnos.Goals as goal

pub docnos-init : goal.docnos-init
docnos-init g c = (
  [],
  record {
    followed = followed-start _ _ _ (search rules) (search rules);
    reads = λ told k reads. subst (ReadsAs told c.args.repository.now) (behind-none k) reads;
    refused = λ told k reads. refused-start k;
    written = λ told k reads. written-start k _;
    backed = λ told backed. backed;
    limits = search rules;
    usable = search rules;
    fits = search rules;
    layers = search rules;
    held = search rules;
    read_same = search rules;
    write_same = search rules;
  },
)

pub docnos-preserved : goal.docnos-preserved
docnos-preserved g c =
    let inv = c.docnos.invariant in
    let line = c.in-Ok-Some.line in
    let gives = rw c.in-Ok-Some.field-0-is at c.in-Ok-Some.ensures.docnos in
    let done = c.in-Ok-write_line.ensures in (
      inv.0 ++ line ∷ [],
      record {
        followed = followed-more inv.0 line _ _ _ _ _ inv.1.followed gives;
        reads = λ told k reads. subst (ReadsAs told _) (behind-next k inv.0 line) (done.reads told _ (inv.1.reads told k reads));
        refused = λ told k reads. refused-next k inv.0 line _ _ (inv.1.refused told k reads) (done.refused told _ (inv.1.reads told k reads));
        written = λ told k reads. written-next k inv.0 line _ _ _ (inv.1.written told k reads) (done.finished told _ (inv.1.reads told k reads));
        backed = λ told backed. done.backed told (inv.1.backed told backed);
        limits = done.limits ∙ inv.1.limits;
        usable = done.usable;
        fits = search rules;
        layers = search rules;
        held = search rules;
        read_same = c.in-Ok-Some.ensures.none (λ e. cc) ∙ inv.1.read_same;
        write_same = done.write.same (λ e. cc) ∙ inv.1.write_same;
      },
    )

pub returns-in-Ok-None-clause-refused : goal.returns-in-Ok-None-clause-refused
returns-in-Ok-None-clause-refused g c = λ told k reads.
    let inv = c.docnos.invariant in
    let gives = rw c.in-Ok-None.field-0-is at c.in-Ok-None.ensures.docnos in
    all-done (λ (lines : List DocnoLine). c.docnos.some_refused ≡ some_refused (line_pieces k lines)) inv.0 _ 0 _ _ _ inv.1.followed gives (inv.1.refused told k reads)

pub returns-in-Ok-None-clause-reads : goal.returns-in-Ok-None-clause-reads
returns-in-Ok-None-clause-reads g c = λ told k reads.
    let inv = c.docnos.invariant in
    let gives = rw c.in-Ok-None.field-0-is at c.in-Ok-None.ensures.docnos in
    all-done (λ (lines : List DocnoLine). ReadsAs told c.docnos.repository (behind_lines k lines)) inv.0 _ 0 _ _ _ inv.1.followed gives (inv.1.reads told k reads)

pub returns-in-Ok-None-clause-finished : goal.returns-in-Ok-None-clause-finished
returns-in-Ok-None-clause-finished g c = λ told k reads.
    let inv = c.docnos.invariant in
    let gives = rw c.in-Ok-None.field-0-is at c.in-Ok-None.ensures.docnos in
    all-done (λ (lines : List DocnoLine). AllWritten (line_pieces k lines) (g.K.Sink.taken c.args.sink.now) (g.K.Sink.taken c.docnos.sink)) inv.0 _ 0 _ _ _ inv.1.followed gives (inv.1.written told k reads)

pub returns-in-Err-Read-clause-broken : goal.returns-in-Err-Read-clause-broken
returns-in-Err-Read-clause-broken g c = λ told k reads.
    let inv = c.docnos.invariant in
    some-done (λ (lines : List DocnoLine). IsCut fault.Read (line_pieces k lines) (g.K.Sink.taken c.args.sink.now) (g.K.Sink.taken c.docnos.sink)) inv.0 _ _ _ inv.1.followed
    (λ rest. cut-here k inv.0 rest _ _ (inv.1.written told k reads))

pub returns-in-Err-Memory-clause-broken : goal.returns-in-Err-Memory-clause-broken
returns-in-Err-Memory-clause-broken g c = λ told k reads.
    let inv = c.docnos.invariant in
    some-done (λ (lines : List DocnoLine). IsCut fault.Memory (line_pieces k lines) (g.K.Sink.taken c.args.sink.now) (g.K.Sink.taken c.docnos.sink)) inv.0 _ _ _ inv.1.followed
    (λ rest. cut-here k inv.0 rest _ _ (inv.1.written told k reads))

pub returns-in-Err-clause-broken : goal.returns-in-Err-clause-broken
returns-in-Err-clause-broken g c = λ told k reads.
    let inv = c.docnos.invariant in
    let line = c.in-Ok-Some.line in
    let gives = rw c.in-Ok-Some.field-0-is at c.in-Ok-Some.ensures.docnos in
    some-done (λ (lines : List DocnoLine). IsCut c.in-Err.fault (line_pieces k lines) (g.K.Sink.taken c.args.sink.now) (g.K.Sink.taken c.write_line.new.sink)) (inv.0 ++ line ∷ []) _ _ _
    (followed-more inv.0 line _ _ _ _ _ inv.1.followed gives)
    (λ rest. cut-next k inv.0 line _ _ _ (inv.1.written told k reads) _ rest (c.in-Err.ensures.broken told _ (inv.1.reads told k reads)))
