use Rattle.std.proofs.Common.{◌∙◌, Err, ap, refl}
use Rattle.desk.specs.Backed.{state_of}
use Rattle.command_pieces.specs.Written.{Plain}
use Rattle.indri_app.proofs.Standing.{files-only, grows-all, grows-none, grows-unwritten, items-only, items-undamaged, outside-honest, piece-done, piece-refused, piece-stops, piece-unwritten}
use Rattle.indri_app.proofs.turn.take_item.Goals as goal

-- it isn't done

pub returns-in-Err-clause-broken : goal.returns-in-Err-clause-broken
returns-in-Err-clause-broken g c = λ kept way.
    rw c.of_files.ensures (piece-refused kept (state_of (g.T.Store.files c.args.store.now) c.args.desk.now.kept) c.args.item c.in-Err.fault _ _ _ refl (c.do_item.ensures.now kept way))

pub returns-in-Err-clause-honest : goal.returns-in-Err-clause-honest
returns-in-Err-clause-honest g c = λ kept way intact. rw c.of_files.ensures (outside-honest c.in-Err.fault (c.in-Err.ensures.honest kept way intact))

pub returns-in-Err-clause-stops : goal.returns-in-Err-clause-stops
returns-in-Err-clause-stops g c = λ kept way. piece-stops kept (state_of (g.T.Store.files c.args.store.now) c.args.desk.now.kept) c.args.item _ _ (c.do_item.ensures.stops kept way)

pub returns-in-Err-clause-grows : goal.returns-in-Err-clause-grows
returns-in-Err-clause-grows g c = grows-none _ _ refl

pub returns-in-Err-clause-only : goal.returns-in-Err-clause-only
returns-in-Err-clause-only g c = rw c.of_files.ensures (files-only c.in-Err.fault)

-- its piece is written

pub returns-in-Ok-write-clause-refused : goal.returns-in-Ok-write-clause-refused
returns-in-Ok-write-clause-refused g c = λ kept way. c.is_refusal.ensures ∙ ap (λ (p : Plain). p.is_refusal) (c.in-Ok.ensures.reply kept way)

pub returns-in-Ok-write-clause-finished : goal.returns-in-Ok-write-clause-finished
returns-in-Ok-write-clause-finished g c = λ kept way.
    piece-done kept (state_of (g.T.Store.files c.args.store.now) c.args.desk.now.kept) c.args.item c.in-Ok.piece _ _ _ (c.in-Ok.ensures.reply kept way) c.in-Ok-write.ensures.finished (c.in-Ok.ensures.way kept way).stands

pub returns-in-Ok-write-clause-stops : goal.returns-in-Ok-write-clause-stops
returns-in-Ok-write-clause-stops g c = λ kept way. piece-stops kept (state_of (g.T.Store.files c.args.store.now) c.args.desk.now.kept) c.args.item _ _ (c.do_item.ensures.stops kept way)

pub returns-in-Ok-write-clause-grows : goal.returns-in-Ok-write-clause-grows
returns-in-Ok-write-clause-grows g c = grows-all c.in-Ok.piece _ _ c.in-Ok-write.ensures.finished

-- it isn't written

pub returns-clause-broken : goal.returns-clause-broken
returns-clause-broken g c = λ kept way.
    let write = c.in-Err-write.ensures in
    rw c.of_items.ensures (piece-unwritten kept (state_of (g.T.Store.files c.args.store.now) c.args.desk.now.kept) c.args.item c.in-Err-write.fault c.in-Ok.piece _ _ _ (c.in-Ok.ensures.reply kept way)
    (λ e. write.no_read (ap Err e)) (λ e. write.front (ap Err e)) (λ e. write.none (ap Err e)) (c.in-Ok.ensures.way kept way).stands)

pub returns-clause-honest : goal.returns-clause-honest
returns-clause-honest g c = λ kept way intact. rw c.of_items.ensures (items-undamaged c.in-Err-write.fault)

pub returns-clause-stops : goal.returns-clause-stops
returns-clause-stops g c = λ kept way. piece-stops kept (state_of (g.T.Store.files c.args.store.now) c.args.desk.now.kept) c.args.item _ _ (c.do_item.ensures.stops kept way)

pub returns-clause-grows : goal.returns-clause-grows
returns-clause-grows g c =
    let write = c.in-Err-write.ensures in
    grows-unwritten c.in-Err-write.fault c.in-Ok.piece _ _ (λ e. write.no_read (ap Err e)) (λ e. write.front (ap Err e)) (λ e. write.none (ap Err e))

pub returns-clause-only : goal.returns-clause-only
returns-clause-only g c = rw c.of_items.ensures (items-only c.in-Err-write.fault (λ e. c.in-Err-write.ensures.no_read (ap Err e)))
