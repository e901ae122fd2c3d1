use Rattle.std.proofs.Common.{subst, sym}
use Rattle.store_ends.proofs.Files.{Leaves-none}
use Rattle.command_pieces.specs.Pieces.{StandsAlong, kept_behind}
use Rattle.repository.specs.RealLimits.{StandsFor}
use Rattle.generated_events.specs.Events.{last_event}
use Rattle.script_reader.specs.declared.item.Item.TheVariants.{Event}
use Rattle.desk.specs.Backed.{state_of}
use Rattle.desk.specs.Step.{step}
use Rattle.desk.specs.Told.{Shows}
use Rattle.indri_app.specs.Generated.{gen_items}
use Rattle.indri_app.specs.Items.{pieces_of, state_behind_all}
use Rattle.indri_app.specs.Orders.{IsTrueItem}
use Rattle.indri_app.proofs.GeneratedLines.{text-shown}
use Rattle.indri_app.proofs.filling.make_and_ask.Goals as goal

-- nothing is shown

pub returns-in-Err-show-clause-along : goal.returns-in-Err-show-clause-along
returns-in-Err-show-clause-along g c = λ kept way.
    let start = state_of (g.T.Store.files c.args.store.now) c.args.desk.now.kept in
    subst (StandsAlong StandsFor kept (pieces_of start (gen_items c.args.count))) (sym c.show.ensures.quiet.same_files) (c.do_events.ensures.along kept way)

pub returns-in-Err-show-clause-stops : goal.returns-in-Err-show-clause-stops
returns-in-Err-show-clause-stops g c = λ kept way. Leaves-none _ _ _ _ (c.do_events.ensures.stops kept way) c.show.ensures.quiet.no_more

pub returns-in-Err-show-clause-honest : goal.returns-in-Err-show-clause-honest
returns-in-Err-show-clause-honest g c = λ kept way intact. c.in-Err-show.ensures.honest _ (c.in-Ok.ensures.way kept way) (c.in-Ok.ensures.intact kept way intact)

-- it is shown, and made into a text

pub returns-in-Ok-gen_text-clause-text : goal.returns-in-Ok-gen_text-clause-text
returns-in-Ok-gen_text-clause-text g c = λ kept way.
    let s = state_behind_all (state_of (g.T.Store.files c.args.store.now) c.args.desk.now.kept) (gen_items c.args.count) in
    let reply = c.in-Ok-show.reply in
    let shows = subst (λ t. Shows (step t last_event).1 reply) (c.in-Ok.ensures.state kept way) (c.in-Ok-show.ensures.shows _ (c.in-Ok.ensures.way kept way)) in
    text-shown c.args.count s reply _ c.in-Ok-gen_text.ensures shows

pub returns-in-Ok-gen_text-clause-order : goal.returns-in-Ok-gen_text-clause-order
returns-in-Ok-gen_text-clause-order g c = λ kept way.
    subst (λ t. IsTrueItem t (Event last_event)) (c.in-Ok.ensures.state kept way) (c.in-Ok-show.ensures.order _ (c.in-Ok.ensures.way kept way))

pub returns-in-Ok-gen_text-clause-done : goal.returns-in-Ok-gen_text-clause-done
returns-in-Ok-gen_text-clause-done g c = λ kept way.
    let start = state_of (g.T.Store.files c.args.store.now) c.args.desk.now.kept in
    subst (StandsFor (kept_behind kept (pieces_of start (gen_items c.args.count)))) (sym c.show.ensures.quiet.same_files) (c.in-Ok.ensures.way kept way).stands

pub returns-in-Ok-gen_text-clause-along : goal.returns-in-Ok-gen_text-clause-along
returns-in-Ok-gen_text-clause-along g c = λ kept way.
    let start = state_of (g.T.Store.files c.args.store.now) c.args.desk.now.kept in
    subst (StandsAlong StandsFor kept (pieces_of start (gen_items c.args.count))) (sym c.show.ensures.quiet.same_files) (c.do_events.ensures.along kept way)

pub returns-in-Ok-gen_text-clause-stops : goal.returns-in-Ok-gen_text-clause-stops
returns-in-Ok-gen_text-clause-stops g c = λ kept way. Leaves-none _ _ _ _ (c.do_events.ensures.stops kept way) c.show.ensures.quiet.no_more

-- there is no memory for it

pub returns-in-Err-gen_text-clause-along : goal.returns-in-Err-gen_text-clause-along
returns-in-Err-gen_text-clause-along g c = λ kept way.
    let start = state_of (g.T.Store.files c.args.store.now) c.args.desk.now.kept in
    subst (StandsAlong StandsFor kept (pieces_of start (gen_items c.args.count))) (sym c.show.ensures.quiet.same_files) (c.do_events.ensures.along kept way)

pub returns-in-Err-gen_text-clause-stops : goal.returns-in-Err-gen_text-clause-stops
returns-in-Err-gen_text-clause-stops g c = λ kept way. Leaves-none _ _ _ _ (c.do_events.ensures.stops kept way) c.show.ensures.quiet.no_more
