use Rattle.std.proofs.Common.{rules, ◌≡◌, true, [], ◌∷◌, ◌++◌, ◌∙◌, subst, arith}
use Rattle.trec_reader.specs.Read.{Found}
use Rattle.command_pieces.specs.Faults.{IsCut}
use Rattle.command_pieces.specs.Pieces.{some_refused}
use Rattle.command_pieces.specs.Written.{AllWritten}
use Rattle.document_handlers.specs.Work.{behind_all, input_pieces}
use Rattle.command_pieces.specs.declared.fault.Fault.TheVariants as fault
use Rattle.document_handlers.proofs.Following.{all-written, all-last, all-next, all-start, all-done, behind-next, behind-none, broken-last, broken-next, followed-more, followed-start, is_refused, refused-all, refused-done, refused-last, refused-next, refused-start, some-done, stopped-here}
use Rattle.document_handlers.proofs.documents.take_documents.Goals as goal

pub documents-init : goal.documents-init
documents-init g c = (
  [],
  record {
    followed = followed-start _ _ _ (search rules) (search rules);
    work = λ w does. subst (g.H.Handler.does c.args.handler.now) (behind-none w) does;
    whole = search rules;
    refused = λ w does. refused-start w;
    finished = λ w does. all-start w _;
    begun = search rules;
    fits = search rules;
    layers = search rules;
    held = search rules;
    read_later = omega arith;
    write_later = omega arith;
    read_same = search rules;
    write_same = search rules;
  },
)

pub documents-preserved : goal.documents-preserved
documents-preserved g c =
    let inv = c.documents.invariant in
    let d = c.in-Ok-Some.document in
    let gives = rw (inv.1.begun, c.in-Ok-Some.field-0-is) at c.in-Ok-Some.ensures.read in (
      inv.0 ++ d ∷ [],
      record {
        followed = followed-more inv.0 d _ _ _ _ _ inv.1.followed gives c.in-Ok-Some.ensures.steps.same_end;
        work = λ w does. subst (g.H.Handler.does _) (behind-next w inv.0 d) (c.in-Ok-take_document.ensures.behind _ (inv.1.work w does));
        whole = search rules;
        refused = λ w does. refused-next w inv.0 d _ _ (inv.1.refused w does) (c.in-Ok-take_document.ensures.refused _ (inv.1.work w does));
        finished = λ w does. all-next w inv.0 d _ _ _ (inv.1.finished w does) (c.in-Ok-take_document.ensures.finished _ (inv.1.work w does));
        begun = search rules;
        fits = search rules;
        layers = search rules;
        held = search rules;
        read_later = omega arith;
        write_later = omega arith;
        read_same = c.in-Ok-Some.ensures.none (λ e. cc) ∙ inv.1.read_same;
        write_same = c.in-Ok-take_document.ensures.same (λ e. cc) ∙ inv.1.write_same;
      },
    )

pub returns-in-Ok-None-clause-refused : goal.returns-in-Ok-None-clause-refused
returns-in-Ok-None-clause-refused g c = λ w does.
    let inv = c.documents.invariant in
    let gives = rw (inv.1.begun, c.in-Ok-None.field-0-is) at c.in-Ok-None.ensures.read in
    all-done (λ (found : Found). c.documents.some_refused ≡ some_refused (input_pieces w found)) inv.0 _ _ _ _ inv.1.followed gives (refused-all w inv.0 _ (inv.1.refused w does))

pub returns-in-Ok-None-clause-behind : goal.returns-in-Ok-None-clause-behind
returns-in-Ok-None-clause-behind g c = λ w does.
    let inv = c.documents.invariant in
    let gives = rw (inv.1.begun, c.in-Ok-None.field-0-is) at c.in-Ok-None.ensures.read in
    all-done (λ (found : Found). g.H.Handler.does c.documents.handler (behind_all w found.0)) inv.0 _ _ _ _ inv.1.followed gives (inv.1.work w does)

pub returns-in-Ok-None-clause-finished : goal.returns-in-Ok-None-clause-finished
returns-in-Ok-None-clause-finished g c = λ w does.
    let inv = c.documents.invariant in
    let gives = rw (inv.1.begun, c.in-Ok-None.field-0-is) at c.in-Ok-None.ensures.read in
    all-done (λ (found : Found). AllWritten (input_pieces w found) (g.K.Sink.taken c.args.sink.now) (g.K.Sink.taken c.documents.sink)) inv.0 _ _ _ _ inv.1.followed gives (all-written w inv.0 _ _ (inv.1.finished w does))

pub returns-in-Err-Read-clause-broken : goal.returns-in-Err-Read-clause-broken
returns-in-Err-Read-clause-broken g c = λ w does.
    let inv = c.documents.invariant in
    some-done (λ (found : Found). IsCut fault.Read (input_pieces w found) (g.K.Sink.taken c.args.sink.now) (g.K.Sink.taken c.documents.sink)) inv.0 _ _ _ inv.1.followed
    (λ rest. stopped-here w inv.0 rest _ _ (inv.1.finished w does))

pub returns-in-Err-Memory-clause-broken : goal.returns-in-Err-Memory-clause-broken
returns-in-Err-Memory-clause-broken g c = λ w does.
    let inv = c.documents.invariant in
    some-done (λ (found : Found). IsCut fault.Memory (input_pieces w found) (g.K.Sink.taken c.args.sink.now) (g.K.Sink.taken c.documents.sink)) inv.0 _ _ _ inv.1.followed
    (λ rest. stopped-here w inv.0 rest _ _ (inv.1.finished w does))

pub returns-in-Err-take_document-clause-broken : goal.returns-in-Err-take_document-clause-broken
returns-in-Err-take_document-clause-broken g c = λ w does.
    let inv = c.documents.invariant in
    let d = c.in-Ok-Some.document in
    let gives = rw (inv.1.begun, c.in-Ok-Some.field-0-is) at c.in-Ok-Some.ensures.read in
    some-done (λ (found : Found). IsCut c.in-Err-take_document.fault (input_pieces w found) (g.K.Sink.taken c.args.sink.now) (g.K.Sink.taken c.take_document.new.sink)) (inv.0 ++ d ∷ []) _ _ _
    (followed-more inv.0 d _ _ _ _ _ inv.1.followed gives c.in-Ok-Some.ensures.steps.same_end)
    (λ rest. broken-next w inv.0 d _ _ _ (inv.1.finished w does) _ rest (c.in-Err-take_document.ensures.broken _ (inv.1.work w does)))

pub returns-in-Ok-write_refusal-clause-refused : goal.returns-in-Ok-write_refusal-clause-refused
returns-in-Ok-write_refusal-clause-refused g c = λ w does.
    let inv = c.documents.invariant in
    let why = c.in-Err.refusal in
    let gives = rw inv.1.begun at c.in-Err.ensures.read in
    let is = is_refused why c.documents.reader.ahead.offset _ _ gives (search rules) (search rules) in
    refused-done (λ (found : Found). true ≡ some_refused (input_pieces w found)) inv.0 _ why _ _ inv.1.followed is (refused-last w inv.0 why)

pub returns-in-Ok-write_refusal-clause-behind : goal.returns-in-Ok-write_refusal-clause-behind
returns-in-Ok-write_refusal-clause-behind g c = λ w does.
    let inv = c.documents.invariant in
    let why = c.in-Err.refusal in
    let gives = rw inv.1.begun at c.in-Err.ensures.read in
    let is = is_refused why c.documents.reader.ahead.offset _ _ gives (search rules) (search rules) in
    refused-done (λ (found : Found). g.H.Handler.does c.documents.handler (behind_all w found.0)) inv.0 _ why _ _ inv.1.followed is (inv.1.work w does)

pub returns-in-Ok-write_refusal-clause-finished : goal.returns-in-Ok-write_refusal-clause-finished
returns-in-Ok-write_refusal-clause-finished g c = λ w does.
    let inv = c.documents.invariant in
    let why = c.in-Err.refusal in
    let gives = rw inv.1.begun at c.in-Err.ensures.read in
    let is = is_refused why c.documents.reader.ahead.offset _ _ gives (search rules) (search rules) in
    refused-done (λ (found : Found). AllWritten (input_pieces w found) (g.K.Sink.taken c.args.sink.now) (g.K.Sink.taken c.write_refusal.new.sink)) inv.0 _ why _ _ inv.1.followed is
    (all-last w inv.0 why _ _ _ (inv.1.finished w does) c.in-Ok-write_refusal.ensures.finished)

pub returns-in-Err-write_refusal-clause-broken : goal.returns-in-Err-write_refusal-clause-broken
returns-in-Err-write_refusal-clause-broken g c = λ w does.
    let inv = c.documents.invariant in
    let why = c.in-Err.refusal in
    let gives = rw inv.1.begun at c.in-Err.ensures.read in
    let is = is_refused why c.documents.reader.ahead.offset _ _ gives (search rules) (search rules) in
    refused-done (λ (found : Found). IsCut c.in-Err-write_refusal.fault (input_pieces w found) (g.K.Sink.taken c.args.sink.now) (g.K.Sink.taken c.write_refusal.new.sink)) inv.0 _ why _ _ inv.1.followed is
    (broken-last _ w inv.0 why _ _ _ (inv.1.finished w does) c.in-Err-write_refusal.ensures.broken)
