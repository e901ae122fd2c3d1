use Rattle.std.proofs.Common.{rules, ◌≡◌, ◌∙◌, [], ◌∷◌, ◌++◌, List, refl, subst, sym, arith, true≢false}
use Rattle.store_ends.specs.Files.{Leaves}
use Rattle.store_ends.proofs.Files.{Leaves-same}
use Rattle.command_pieces.specs.CommandFaults.{IsBrokenBy}
use Rattle.command_pieces.specs.Pieces.{Finished, StandsAlong, some_refused}
use Rattle.command_pieces.specs.declared.command_fault.CommandFault.TheVariants as fault
use Rattle.command_pieces.proofs.Joining.{StoppedBetween-none}
use Rattle.repository.specs.RealLimits.{StandsFor}
use Rattle.repository.specs.Stands.{Collection}
use Rattle.script_reader.specs.Items.{items}
use Rattle.script_reader.specs.declared.item.Item.{Item}
use Rattle.desk.specs.Backed.{state_of}
use Rattle.desk.specs.State.{collection_of}
use Rattle.indri_app.specs.Items.{pieces_of, state_behind_all}
use Rattle.indri_app.specs.Orders.{AreTrue}
use Rattle.indri_app.specs.Sessions.{IsUnderWay}
use Rattle.indri_app.proofs.Following.{Along-next, Finished-next, Finished-start, all-done, broken-next, end-next, followed-more, followed-start, kept-next, kept-start, refused-next, refused-start, some-along, some-done, some-stopped, state-next, state-none, true-next, true-start}
use Rattle.indri_app.proofs.Standing.{grows-none, grows-then, if-all, item-only}
use Rattle.indri_app.proofs.items.take_items.Goals as goal

pub items-init : goal.items-init
items-init g c =
    let start = state_of (g.T.Store.files c.args.store.now) c.args.desk.now.kept in (
      [],
      record {
        followed = followed-start c.in-Ok.reader _ c.in-Ok.ensures.items;
        ready = c.in-Ok.ensures.ready _ _ (g.met.S.Source.is_bounded c.args.source.now);
        state = λ kept way. state-none start;
        way = λ kept way. subst (IsUnderWay _ _ _) (sym (kept-start kept start)) way;
        intact = λ kept way intact. intact;
        refused = λ kept way. refused-start start;
        finished = λ kept way. Finished-start kept start _ _ way.stands;
        order = λ kept way. true-start start;
        ended = λ kept way ends. absurd (true≢false (sym ends ∙ c.in-Ok.ensures.goes_on));
        stops = λ kept way. Leaves-same _ _;
        grows = grows-none _ _ refl;
        usable = λ on. c.requires.usable;
        rule = refl;
        stay = refl;
        nine = c.requires.nine;
        goes_on = search rules;
        layers = search rules;
        held = search rules;
        read_later = omega arith;
        write_later = omega arith;
        store_later = omega arith;
      },
    )

pub items-preserved : goal.items-preserved
items-preserved g c =
    let inv = c.items.invariant in
    let i = c.in-Ok-Some.item in
    let gives = rw c.in-Ok-Some.field-0-is at c.in-Ok-Some.ensures.items in
    let done = c.in-Ok-take_item.ensures in
    let start = state_of (g.T.Store.files c.args.store.now) c.args.desk.now.kept in
    let here = state_of (g.T.Store.files c.items.store) c.items.desk.kept in (
      inv.0 ++ i ∷ [],
      record {
        followed = followed-more inv.0 i c.items.reader c.next_item.new.self _ _ _ inv.1.followed gives;
        ready = c.in-Ok-Some.ensures.ready;
        state = λ kept way. state-next start here inv.0 i (inv.1.state kept way) _ (done.state _ (inv.1.way kept way));
        way = λ kept way. subst (IsUnderWay _ _ _) (kept-next start here inv.0 i (inv.1.state kept way) kept) (done.way _ (inv.1.way kept way));
        intact = λ kept way intact. done.intact _ (inv.1.way kept way) (inv.1.intact kept way intact);
        refused = λ kept way. refused-next start here inv.0 i (inv.1.state kept way) _ _ (inv.1.refused kept way) (done.refused _ (inv.1.way kept way));
        finished = λ kept way. Finished-next start here inv.0 i (inv.1.state kept way) kept _ _ _ _ _ (inv.1.finished kept way) (done.finished _ (inv.1.way kept way));
        order = λ kept way. true-next start here inv.0 i (inv.1.state kept way) (inv.1.order kept way) (done.order _ (inv.1.way kept way));
        ended = λ kept way ends. end-next start here inv.0 i (inv.1.state kept way) kept (sym (rw c.in-Ok-Some.field-0-is at c.in-Ok-Some.ensures.ended) ∙ ends);
        stops = λ kept way. Along-next start here inv.0 i (inv.1.state kept way) _ _ _ kept (inv.1.stops kept way) (c.take_item.ensures.stops _ (inv.1.way kept way));
        grows = grows-then _ _ _ inv.1.grows c.take_item.ensures.grows;
        usable = λ on. done.usable (sym (rw c.in-Ok-Some.field-0-is at c.in-Ok-Some.ensures.ended) ∙ on);
        rule = c.take_item.ensures.rule ∙ inv.1.rule;
        stay = c.take_item.ensures.stay ∙ inv.1.stay;
        nine = c.take_item.ensures.nine;
        goes_on = search rules;
        layers = search rules;
        held = search rules;
        read_later = search rules;
        write_later = search rules;
        store_later = search rules;
      },
    )

-- there is no memory for a reader

pub returns-in_default-clause-broken : goal.returns-in_default-clause-broken
returns-in_default-clause-broken g c = λ kept way.
    let start = state_of (g.T.Store.files c.args.store.now) c.args.desk.now.kept in
    if-all (g.S.Source.left c.args.source.now) (λ bytes. IsBrokenBy fault.Memory StandsFor kept (pieces_of start (items bytes)) (g.K.Sink.taken c.args.sink.now) (g.K.Sink.taken c.args.sink.now) (g.T.Store.files c.args.store.now))
    (λ bytes. StoppedBetween-none StandsFor kept (pieces_of start (items bytes)) _ _ _ refl way.stands)

pub returns-in_default-clause-stops : goal.returns-in_default-clause-stops
returns-in_default-clause-stops g c = λ kept way.
    let start = state_of (g.T.Store.files c.args.store.now) c.args.desk.now.kept in
    if-all (g.S.Source.left c.args.source.now) (λ bytes. Leaves (g.T.Store.since c.args.store.now) (g.T.Store.since c.args.store.now) (StandsAlong StandsFor kept (pieces_of start (items bytes)))) (λ bytes. Leaves-same _ _)

pub returns-in_default-clause-grows : goal.returns-in_default-clause-grows
returns-in_default-clause-grows g c = grows-none _ _ refl

-- the script is read to its end

pub returns-in-Ok-None-clause-refused : goal.returns-in-Ok-None-clause-refused
returns-in-Ok-None-clause-refused g c = λ kept way.
    let inv = c.items.invariant in
    let gives = rw c.in-Ok-None.field-0-is at c.in-Ok-None.ensures.items in
    let start = state_of (g.T.Store.files c.args.store.now) c.args.desk.now.kept in
    all-done (λ (is : List Item). some_refused (pieces_of start is) ≡ c.items.some_refused) inv.0 c.items.reader _ _ _ inv.1.followed gives (sym (inv.1.refused kept way))

pub returns-in-Ok-None-clause-finished : goal.returns-in-Ok-None-clause-finished
returns-in-Ok-None-clause-finished g c = λ kept way.
    let inv = c.items.invariant in
    let gives = rw c.in-Ok-None.field-0-is at c.in-Ok-None.ensures.items in
    let start = state_of (g.T.Store.files c.args.store.now) c.args.desk.now.kept in
    all-done (λ (is : List Item). Finished StandsFor kept (pieces_of start is) (g.K.Sink.taken c.args.sink.now) (g.K.Sink.taken c.items.sink) (g.T.Store.files c.items.store)) inv.0 c.items.reader _ _ _ inv.1.followed gives (inv.1.finished kept way)

pub returns-in-Ok-None-clause-stands : goal.returns-in-Ok-None-clause-stands
returns-in-Ok-None-clause-stands g c = λ kept way.
    let inv = c.items.invariant in
    let gives = rw c.in-Ok-None.field-0-is at c.in-Ok-None.ensures.items in
    let ended = inv.1.ended kept way (sym (rw c.in-Ok-None.field-0-is at c.in-Ok-None.ensures.none)) in
    let start = state_of (g.T.Store.files c.args.store.now) c.args.desk.now.kept in
    all-done (λ (is : List Item). StandsFor (collection_of (state_behind_all start is)) (g.T.Store.files c.items.store)) inv.0 c.items.reader _ _ _ inv.1.followed gives
    (subst (λ (k : Collection). StandsFor k (g.T.Store.files c.items.store)) ended (inv.1.finished kept way).files_stand)

pub returns-in-Ok-None-clause-order : goal.returns-in-Ok-None-clause-order
returns-in-Ok-None-clause-order g c = λ kept way.
    let inv = c.items.invariant in
    let gives = rw c.in-Ok-None.field-0-is at c.in-Ok-None.ensures.items in
    let start = state_of (g.T.Store.files c.args.store.now) c.args.desk.now.kept in
    all-done (λ (is : List Item). AreTrue start is) inv.0 c.items.reader _ _ _ inv.1.followed gives (inv.1.order kept way)

pub returns-in-Ok-None-clause-stops : goal.returns-in-Ok-None-clause-stops
returns-in-Ok-None-clause-stops g c = λ kept way.
    some-along kept (state_of (g.T.Store.files c.args.store.now) c.args.desk.now.kept) c.items.invariant.0 c.items.reader _ _ c.items.invariant.1.followed _ _ (c.items.invariant.1.stops kept way)

-- the source fails, or there is no memory for an item

pub returns-in-Err-Read-clause-broken : goal.returns-in-Err-Read-clause-broken
returns-in-Err-Read-clause-broken g c = λ kept way.
    some-stopped kept (state_of (g.T.Store.files c.args.store.now) c.args.desk.now.kept) c.items.invariant.0 c.items.reader _ _ c.items.invariant.1.followed _ _ _ (c.items.invariant.1.finished kept way)

pub returns-in-Err-Read-clause-stops : goal.returns-in-Err-Read-clause-stops
returns-in-Err-Read-clause-stops g c = λ kept way.
    some-along kept (state_of (g.T.Store.files c.args.store.now) c.args.desk.now.kept) c.items.invariant.0 c.items.reader _ _ c.items.invariant.1.followed _ _ (c.items.invariant.1.stops kept way)

pub returns-in-Err-Memory-clause-broken : goal.returns-in-Err-Memory-clause-broken
returns-in-Err-Memory-clause-broken g c = λ kept way.
    some-stopped kept (state_of (g.T.Store.files c.args.store.now) c.args.desk.now.kept) c.items.invariant.0 c.items.reader _ _ c.items.invariant.1.followed _ _ _ (c.items.invariant.1.finished kept way)

pub returns-in-Err-Memory-clause-stops : goal.returns-in-Err-Memory-clause-stops
returns-in-Err-Memory-clause-stops g c = λ kept way.
    some-along kept (state_of (g.T.Store.files c.args.store.now) c.args.desk.now.kept) c.items.invariant.0 c.items.reader _ _ c.items.invariant.1.followed _ _ (c.items.invariant.1.stops kept way)

-- an item is broken off

pub returns-in-Err-clause-broken : goal.returns-in-Err-clause-broken
returns-in-Err-clause-broken g c = λ kept way.
    let inv = c.items.invariant in
    let i = c.in-Ok-Some.item in
    let gives = rw c.in-Ok-Some.field-0-is at c.in-Ok-Some.ensures.items in
    let start = state_of (g.T.Store.files c.args.store.now) c.args.desk.now.kept in
    let here = state_of (g.T.Store.files c.items.store) c.items.desk.kept in
    some-done (λ (is : List Item). IsBrokenBy c.in-Err.fault StandsFor kept (pieces_of start is) (g.K.Sink.taken c.args.sink.now) (g.K.Sink.taken c.take_item.new.sink) (g.T.Store.files c.take_item.new.store)) (inv.0 ++ i ∷ []) c.next_item.new.self _ _
    (followed-more inv.0 i c.items.reader c.next_item.new.self _ _ _ inv.1.followed gives)
    (λ rest. broken-next start here inv.0 i (inv.1.state kept way) _ kept rest _ _ _ _ _ (inv.1.finished kept way) (c.in-Err.ensures.broken _ (inv.1.way kept way)))

pub returns-in-Err-clause-honest : goal.returns-in-Err-clause-honest
returns-in-Err-clause-honest g c = λ kept way intact.
    let inv = c.items.invariant in
    c.in-Err.ensures.honest _ (inv.1.way kept way) (inv.1.intact kept way intact)

pub returns-in-Err-clause-stops : goal.returns-in-Err-clause-stops
returns-in-Err-clause-stops g c = λ kept way.
    let inv = c.items.invariant in
    let i = c.in-Ok-Some.item in
    let gives = rw c.in-Ok-Some.field-0-is at c.in-Ok-Some.ensures.items in
    let start = state_of (g.T.Store.files c.args.store.now) c.args.desk.now.kept in
    let here = state_of (g.T.Store.files c.items.store) c.items.desk.kept in
    some-along kept start (inv.0 ++ i ∷ []) c.next_item.new.self _ _ (followed-more inv.0 i c.items.reader c.next_item.new.self _ _ _ inv.1.followed gives) _ _
    (Along-next start here inv.0 i (inv.1.state kept way) _ _ _ kept (inv.1.stops kept way) (c.take_item.ensures.stops _ (inv.1.way kept way)))

pub returns-in-Err-clause-grows : goal.returns-in-Err-clause-grows
returns-in-Err-clause-grows g c = grows-then _ _ _ c.items.invariant.1.grows c.take_item.ensures.grows

pub returns-in-Err-clause-only : goal.returns-in-Err-clause-only
returns-in-Err-clause-only g c = item-only c.in-Err.fault c.in-Err.ensures.only
