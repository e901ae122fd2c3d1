use Rattle.std.proofs.Common.{◌≡◌, ◌∙◌, ap, not, subst, sym, List, length}
use Rattle.std.proofs.lemmas.List.{length-map}
use Rattle.std.proofs.lemmas.Result.{IfErr-weaker, IfOk-weaker}
use Rattle.ri_base.specs.Faults.{IsOutside}
use Rattle.ri_base.specs.declared.seg_fault.SegFault.{SegFault}
use Rattle.ri_base.specs.declared.seg_fault.SegFault.TheVariants as fault
use Rattle.belief_nodes.specs.Priors.{Prior}
use Rattle.command_pieces.specs.Written.{Plain}
use Rattle.desk.specs.Replied.{reply_piece}
use Rattle.script_reader.specs.declared.item.Item.TheVariants.{Event}
use Rattle.desk.specs.Backed.{state_of}
use Rattle.indri_app.specs.Items.{item_reply, kept_by}
use Rattle.indri_app.specs.Sessions.{IsUnderWay}
use Rattle.indri_app.proofs.Standing.{on-ok}
use Rattle.indri_app.proofs.StepLemmas.{goes-on, left-step, now-step, reply-step, stands-step, stands-under, state-step, true-step}
use Rattle.indri_app.proofs.TextLemmas.{shown-piece}
use Rattle.indri_app.proofs.turn.do_event.Goals as goal

pub returns-in-Ok-clause-reply : goal.returns-in-Ok-clause-reply
returns-in-Ok-clause-reply g c = λ kept way.
    let steps = c.in-Ok.ensures.steps way.backed way.plugs_are in
    let s = state_of (g.T.Store.files c.args.store.now) c.args.desk.now.kept in
    IfOk-weaker c.tell_reply.result (λ (p : Plain). p ≡ reply_piece c.in-Ok.reply) (λ p. p ≡ item_reply s (Event c.args.event))
    (λ p is. is ∙ shown-piece _ c.in-Ok.reply steps.shows ∙ reply-step s c.args.event) c.tell_reply.ensures.piece

pub returns-in-Ok-clause-state : goal.returns-in-Ok-clause-state
returns-in-Ok-clause-state g c = λ kept way.
    let steps = c.in-Ok.ensures.steps way.backed way.plugs_are in
    on-ok c.tell_reply.result _ (steps.state ∙ state-step (state_of (g.T.Store.files c.args.store.now) c.args.desk.now.kept) c.args.event)

pub returns-in-Ok-clause-way : goal.returns-in-Ok-clause-way
returns-in-Ok-clause-way g c = λ kept way.
    let steps = c.in-Ok.ensures.steps way.backed way.plugs_are in
    let before = g.T.Store.files c.args.store.now in
    let after = g.T.Store.files c.event.new.store in
    let old = c.args.desk.now.kept in
    let new = c.event.new.self.kept in
    let stands = stands-step before old _ kept c.args.event way after (c.in-Ok.ensures.done kept way.backed (stands-under before old _ kept c.args.event way)) in
    on-ok c.tell_reply.result _ (subst (λ (ps : List Prior). IsUnderWay after new ps (kept_by kept (state_of before old) (Event c.args.event))) (sym c.event.ensures.stay)
    (goes-on before after old new _ c.args.event steps.state kept _ way steps.backed stands))

pub returns-in-Ok-clause-intact : goal.returns-in-Ok-clause-intact
returns-in-Ok-clause-intact g c = λ kept way intact. on-ok c.tell_reply.result _ (c.in-Ok.ensures.intact way.backed intact)

pub returns-in-Ok-clause-order : goal.returns-in-Ok-clause-order
returns-in-Ok-clause-order g c = λ kept way.
    let steps = c.in-Ok.ensures.steps way.backed way.plugs_are in
    on-ok c.tell_reply.result _ (true-step (state_of (g.T.Store.files c.args.store.now) c.args.desk.now.kept) c.args.event c.in-Ok.reply steps.shows (c.in-Ok.ensures.order way.backed))

pub returns-in-Ok-clause-now : goal.returns-in-Ok-clause-now
returns-in-Ok-clause-now g c = λ kept way. now-step (g.T.Store.files c.args.store.now) c.args.desk.now.kept _ kept c.args.event way _ c.event.ensures.now

pub returns-in-Ok-clause-stops : goal.returns-in-Ok-clause-stops
returns-in-Ok-clause-stops g c = λ kept way. left-step (g.T.Store.files c.args.store.now) c.args.desk.now.kept _ kept c.args.event way _ _ c.event.ensures.stops

pub returns-in-Ok-clause-honest : goal.returns-in-Ok-clause-honest
returns-in-Ok-clause-honest g c = λ kept way intact.
    IfErr-weaker c.tell_reply.result (λ (e : SegFault). e ≡ fault.Memory) IsOutside (λ e is. subst IsOutside (sym is) tt) c.tell_reply.ensures.only

pub returns-in-Ok-clause-usable : goal.returns-in-Ok-clause-usable
returns-in-Ok-clause-usable g c = on-ok c.tell_reply.result _ (λ on. (c.in-Ok.ensures.usable.0 ∙ ap not on, c.in-Ok.ensures.usable.1))

pub returns-in-Ok-clause-nine : goal.returns-in-Ok-clause-nine
returns-in-Ok-clause-nine g c = sym (length-map c.event.new.plugs _) ∙ ap length c.event.ensures.stay ∙ length-map c.args.plugs.now _ ∙ c.requires.nine

pub returns-in-Err-clause-now : goal.returns-in-Err-clause-now
returns-in-Err-clause-now g c = λ kept way. now-step (g.T.Store.files c.args.store.now) c.args.desk.now.kept _ kept c.args.event way _ c.event.ensures.now

pub returns-in-Err-clause-stops : goal.returns-in-Err-clause-stops
returns-in-Err-clause-stops g c = λ kept way. left-step (g.T.Store.files c.args.store.now) c.args.desk.now.kept _ kept c.args.event way _ _ c.event.ensures.stops

pub returns-in-Err-clause-honest : goal.returns-in-Err-clause-honest
returns-in-Err-clause-honest g c = λ kept way intact. c.in-Err.ensures.honest way.backed intact

pub returns-in-Err-clause-nine : goal.returns-in-Err-clause-nine
returns-in-Err-clause-nine g c = sym (length-map c.event.new.plugs _) ∙ ap length c.event.ensures.stay ∙ length-map c.args.plugs.now _ ∙ c.requires.nine
