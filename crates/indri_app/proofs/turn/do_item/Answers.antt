use Rattle.std.proofs.Common.{◌≡◌, inl, subst, sym}
use Rattle.std.proofs.lemmas.Result.{IfErr-weaker, IfOk-weaker}
use Rattle.store_ends.proofs.Files.{Leaves-same}
use Rattle.ri_base.specs.Faults.{IsOutside}
use Rattle.ri_base.specs.declared.seg_fault.SegFault.{SegFault}
use Rattle.ri_base.specs.declared.seg_fault.SegFault.TheVariants as fault
use Rattle.command_pieces.specs.Written.{Plain}
use Rattle.desk.specs.Backed.{state_of}
use Rattle.desk.specs.State.{State}
use Rattle.indri_app.specs.Items.{item_reply}
use Rattle.indri_app.proofs.Standing.{on-ok}
use Rattle.indri_app.proofs.StepLemmas.{no-event, none-state, none-true, none-way}
use Rattle.indri_app.proofs.turn.do_item.Goals as goal

-- an event

pub returns-in-Event-clause-reply : goal.returns-in-Event-clause-reply
returns-in-Event-clause-reply g c = rw c.in-Event.is c.do_event.ensures.reply

pub returns-in-Event-clause-state : goal.returns-in-Event-clause-state
returns-in-Event-clause-state g c = rw c.in-Event.is c.do_event.ensures.state

pub returns-in-Event-clause-way : goal.returns-in-Event-clause-way
returns-in-Event-clause-way g c = rw c.in-Event.is c.do_event.ensures.way

pub returns-in-Event-clause-order : goal.returns-in-Event-clause-order
returns-in-Event-clause-order g c = rw c.in-Event.is c.do_event.ensures.order

pub returns-in-Event-clause-now : goal.returns-in-Event-clause-now
returns-in-Event-clause-now g c = rw c.in-Event.is c.do_event.ensures.now

pub returns-in-Event-clause-stops : goal.returns-in-Event-clause-stops
returns-in-Event-clause-stops g c = rw c.in-Event.is c.do_event.ensures.stops

-- what is no event

pub tell_other-requires : goal.tell_other-requires
tell_other-requires g c = no-event c.args.item c.in_default.not-Event

pub returns-in_default-clause-reply : goal.returns-in_default-clause-reply
returns-in_default-clause-reply g c = λ kept way.
    let s = state_of (g.T.Store.files c.args.store.now) c.args.desk.now.kept in
    IfOk-weaker c.tell_other.result (λ (p : Plain). (s : State) → p ≡ item_reply s c.args.item) (λ p. p ≡ item_reply s c.args.item) (λ p is. is s) c.tell_other.ensures.piece

pub returns-in_default-clause-state : goal.returns-in_default-clause-state
returns-in_default-clause-state g c = λ kept way. on-ok c.tell_other.result _ (none-state _ c.args.item (no-event c.args.item c.in_default.not-Event))

pub returns-in_default-clause-way : goal.returns-in_default-clause-way
returns-in_default-clause-way g c = λ kept way. on-ok c.tell_other.result _ (none-way (g.T.Store.files c.args.store.now) c.args.desk.now.kept _ kept c.args.item (no-event c.args.item c.in_default.not-Event) way)

pub returns-in_default-clause-intact : goal.returns-in_default-clause-intact
returns-in_default-clause-intact g c = λ kept way intact. on-ok c.tell_other.result _ intact

pub returns-in_default-clause-order : goal.returns-in_default-clause-order
returns-in_default-clause-order g c = λ kept way. on-ok c.tell_other.result _ (none-true _ c.args.item (no-event c.args.item c.in_default.not-Event))

pub returns-in_default-clause-now : goal.returns-in_default-clause-now
returns-in_default-clause-now g c = λ kept way. inl way.stands

pub returns-in_default-clause-stops : goal.returns-in_default-clause-stops
returns-in_default-clause-stops g c = λ kept way. Leaves-same _ _

pub returns-in_default-clause-honest : goal.returns-in_default-clause-honest
returns-in_default-clause-honest g c = λ kept way intact. IfErr-weaker c.tell_other.result (λ (e : SegFault). e ≡ fault.Memory) IsOutside (λ e is. subst IsOutside (sym is) tt) c.tell_other.ensures.only

pub returns-in_default-clause-usable : goal.returns-in_default-clause-usable
returns-in_default-clause-usable g c = on-ok c.tell_other.result _ (λ on. c.requires.usable)
