use Rattle.std.proofs.Common.{rules, ◌≡◌, ◌++◌, ◌∷◌, [], ◌∙◌, List, ap, arith, length, map, refl, sym, subst, append-nil, append_assoc}
use Rattle.store_ends.proofs.Files.{Leaves-same}
use Rattle.command_pieces.specs.Pieces.{kept_behind}
use Rattle.repository.proofs.GoingLemmas.{going-same, going-then}
use Rattle.generated_events.specs.Left.{events_left}
use Rattle.script_reader.specs.declared.item.Item.{Item}
use Rattle.script_reader.specs.declared.item.Item.TheVariants.{Event}
use Rattle.desk.specs.Backed.{state_of}
use Rattle.indri_app.specs.Generated.{gen_items}
use Rattle.indri_app.specs.Items.{pieces_of, state_behind_all}
use Rattle.indri_app.specs.Sessions.{IsUnderWay}
use Rattle.indri_app.proofs.Following.{Along-next, along-all, along-next, events-next, kept-next, kept-start, leaves-of, stands-of, state-next, state-none}
use Rattle.indri_app.proofs.GeneratedLive.{goes-next}
use Rattle.indri_app.proofs.Standing.{piece-stops}
use Rattle.indri_app.proofs.filling.do_events.Goals as goal

pub events-init : goal.events-init
events-init g c =
    let start = state_of (g.T.Store.files c.args.store.now) c.args.desk.now.kept in (
      [],
      record {
        followed = ap (λ n. map Event (events_left n c.new-generator.result.stage)) c.new-generator.ensures.count ∙ ap (map Event) c.new-generator.ensures.all;
        state = λ kept way. state-none start;
        way = λ kept way. subst (IsUnderWay _ _ _) (sym (kept-start kept start)) way;
        intact = λ kept way intact. intact;
        stops = λ kept way. Leaves-same _ _;
        usable = c.requires.usable;
        rule = refl;
        stay = refl;
        nine = c.requires.nine;
        goes_on = going-same g.T.Store.layers g.T.Store.clock g.T.Store.longest g.T.Store.held c.args.store.now;
        later = search rules;
      },
    )

pub events-preserved-in-Ok : goal.events-preserved-in-Ok
events-preserved-in-Ok g c =
    let inv = c.events.invariant in
    let e = c.in-Ok-Some.event in
    let i = Event e in
    let start = state_of (g.T.Store.files c.args.store.now) c.args.desk.now.kept in
    let here = state_of (g.T.Store.files c.events.store) c.events.desk.kept in
    let gives = rw c.in-Ok-Some.field-0-is at c.in-Ok-Some.ensures.gives in
    let left = map Event (events_left c.next_event.new.self.count c.next_event.new.self.stage) in
    let followed : inv.0 ++ i ∷ left ≡ gen_items c.args.count = ap (λ es. inv.0 ++ map Event es) (sym gives) ∙ inv.1.followed in
    let done = c.in-Ok.ensures in (
      inv.0 ++ i ∷ [],
      record {
        followed = append_assoc inv.0 (i ∷ []) left ∙ followed;
        state = λ kept way. state-next start here inv.0 i (inv.1.state kept way) _ (done.state _ (inv.1.way kept way));
        way = λ kept way. subst (IsUnderWay _ _ _) (kept-next start here inv.0 i (inv.1.state kept way) kept) (done.way _ (inv.1.way kept way));
        intact = λ kept way intact. done.intact _ (inv.1.way kept way) (inv.1.intact kept way intact);
        stops = λ kept way. Along-next start here inv.0 i (inv.1.state kept way) _ _ _ kept (inv.1.stops kept way)
            (piece-stops (kept_behind kept (pieces_of start inv.0)) here i _ _ (c.do_event.ensures.stops _ (inv.1.way kept way)));
        usable = done.usable (goes-next c.args.count inv.0 left i followed);
        rule = c.do_event.ensures.rule ∙ inv.1.rule;
        stay = c.do_event.ensures.stay ∙ inv.1.stay;
        nine = c.do_event.ensures.nine;
        goes_on = going-then g.T.Store.layers g.T.Store.clock g.T.Store.longest g.T.Store.held c.args.store.now c.events.store c.do_event.new.store inv.1.goes_on c.do_event.ensures.goes_on;
        later = (let a = inv.1.later in let b = c.do_event.ensures.later in omega (arith, a, b));
      },
    )

pub events-smaller : goal.events-smaller
events-smaller g c =
    let gives = rw c.in-Ok-Some.field-0-is at c.in-Ok-Some.ensures.gives in
    let count = ap length gives in
    omega (arith, count)

-- all are done

pub returns-in-Ok-None-clause-state : goal.returns-in-Ok-None-clause-state
returns-in-Ok-None-clause-state g c = λ kept way.
    let inv = c.events.invariant in
    let gives = rw c.in-Ok-None.field-0-is at c.in-Ok-None.ensures.gives in
    let all : inv.0 ≡ gen_items c.args.count = sym (append-nil inv.0) ∙ ap (λ es. inv.0 ++ map Event es) (sym gives) ∙ inv.1.followed in
    inv.1.state kept way ∙ ap (state_behind_all (state_of (g.T.Store.files c.args.store.now) c.args.desk.now.kept)) all

pub returns-in-Ok-None-clause-way : goal.returns-in-Ok-None-clause-way
returns-in-Ok-None-clause-way g c = λ kept way.
    let inv = c.events.invariant in
    let gives = rw c.in-Ok-None.field-0-is at c.in-Ok-None.ensures.gives in
    let all : inv.0 ≡ gen_items c.args.count = sym (append-nil inv.0) ∙ ap (λ es. inv.0 ++ map Event es) (sym gives) ∙ inv.1.followed in
    let start = state_of (g.T.Store.files c.args.store.now) c.args.desk.now.kept in
    subst (λ (is : List Item). IsUnderWay (g.T.Store.files c.events.store) c.events.desk.kept (map (λ b. (goal.BeliefNode-dyn g (b.vtable, b.value)).meaning b.value) c.events.plugs) (kept_behind kept (pieces_of start is))) all (inv.1.way kept way)

pub returns-in-Ok-None-clause-intact : goal.returns-in-Ok-None-clause-intact
returns-in-Ok-None-clause-intact g c = λ kept way intact. c.events.invariant.1.intact kept way intact

pub returns-in-Ok-None-clause-along : goal.returns-in-Ok-None-clause-along
returns-in-Ok-None-clause-along g c = λ kept way.
    let inv = c.events.invariant in
    let start = state_of (g.T.Store.files c.args.store.now) c.args.desk.now.kept in
    stands-of kept start inv.0 _ _ inv.1.followed _ (along-all kept (pieces_of start inv.0) _ (inv.1.way kept way).stands)

pub returns-in-Ok-None-clause-stops : goal.returns-in-Ok-None-clause-stops
returns-in-Ok-None-clause-stops g c = λ kept way.
    let inv = c.events.invariant in
    leaves-of kept (state_of (g.T.Store.files c.args.store.now) c.args.desk.now.kept) inv.0 _ _ inv.1.followed _ _ (inv.1.stops kept way)

-- there is no memory for the next one

pub returns-in-Err-clause-along : goal.returns-in-Err-clause-along
returns-in-Err-clause-along g c = λ kept way.
    let inv = c.events.invariant in
    let start = state_of (g.T.Store.files c.args.store.now) c.args.desk.now.kept in
    stands-of kept start inv.0 _ _ inv.1.followed _ (along-all kept (pieces_of start inv.0) _ (inv.1.way kept way).stands)

pub returns-in-Err-clause-stops : goal.returns-in-Err-clause-stops
returns-in-Err-clause-stops g c = λ kept way.
    let inv = c.events.invariant in
    leaves-of kept (state_of (g.T.Store.files c.args.store.now) c.args.desk.now.kept) inv.0 _ _ inv.1.followed _ _ (inv.1.stops kept way)

-- one isn't done

pub returns-in-Err-do_event-clause-along : goal.returns-in-Err-do_event-clause-along
returns-in-Err-do_event-clause-along g c = λ kept way.
    let inv = c.events.invariant in
    let gives = rw c.in-Ok-Some.field-0-is at c.in-Ok-Some.ensures.gives in
    let start = state_of (g.T.Store.files c.args.store.now) c.args.desk.now.kept in
    let here = state_of (g.T.Store.files c.events.store) c.events.desk.kept in
    stands-of kept start (inv.0 ++ Event c.in-Ok-Some.event ∷ []) _ _ (events-next inv.0 _ c.in-Ok-Some.event _ _ gives inv.1.followed) _ (along-next start here inv.0 (Event c.in-Ok-Some.event) (inv.1.state kept way) kept _ (c.do_event.ensures.now _ (inv.1.way kept way)))

pub returns-in-Err-do_event-clause-stops : goal.returns-in-Err-do_event-clause-stops
returns-in-Err-do_event-clause-stops g c = λ kept way.
    let inv = c.events.invariant in
    let gives = rw c.in-Ok-Some.field-0-is at c.in-Ok-Some.ensures.gives in
    let start = state_of (g.T.Store.files c.args.store.now) c.args.desk.now.kept in
    let here = state_of (g.T.Store.files c.events.store) c.events.desk.kept in
    leaves-of kept start (inv.0 ++ Event c.in-Ok-Some.event ∷ []) _ _ (events-next inv.0 _ c.in-Ok-Some.event _ _ gives inv.1.followed) _ _
    (Along-next start here inv.0 (Event c.in-Ok-Some.event) (inv.1.state kept way) _ _ _ kept (inv.1.stops kept way) (piece-stops (kept_behind kept (pieces_of start inv.0)) here (Event c.in-Ok-Some.event) _ _ (c.do_event.ensures.stops _ (inv.1.way kept way))))

pub returns-in-Err-do_event-clause-honest : goal.returns-in-Err-do_event-clause-honest
returns-in-Err-do_event-clause-honest g c = λ kept way intact.
    let inv = c.events.invariant in
    c.in-Err-do_event.ensures.honest _ (inv.1.way kept way) (inv.1.intact kept way intact)
