use Rattle.std.proofs.Common.{◌≡◌, [], Bool, None, not, subst, sym}
use Rattle.repository.specs.Writes.{AreGone}
use Rattle.desk.specs.Backed.{Keeps, Steps, with_usable, IsDeskIntact}
use Rattle.desk.specs.Keeping.{StaysIfRefused}
use Rattle.desk.proofs.EventExits.{stays-usable, usable-set}
use Rattle.desk.proofs.IntactLemmas.{usable-intact}
use Rattle.desk.proofs.desk.Desk.event.Goals as goal

pub answer-requires-clause-kind : goal.answer-requires-clause-kind
answer-requires-clause-kind g c = sym c.args.self.now.same_kind

pub set_usable-requires : goal.set_usable-requires
set_usable-requires g c = λ on. c.in-Ok.ensures.keeps.usable.0

pub returns-in-Ok-clause-steps : goal.returns-in-Ok-clause-steps
returns-in-Ok-clause-steps g c = λ backed plugs.
    subst (λ (x : Keeps). Steps c.args.event (g.T.Store.files c.args.store.now) (g.T.Store.files c.answer.new.store) c.args.self.now.kept x c.in-Ok.reply) (sym c.set_usable.ensures) (usable-set c.args.event (g.T.Store.files c.args.store.now) (g.T.Store.files c.answer.new.store) c.args.self.now.kept c.answer.new.self _ c.in-Ok.reply (c.in-Ok.ensures.steps backed plugs))

pub returns-in-Ok-clause-swept : goal.returns-in-Ok-clause-swept
returns-in-Ok-clause-swept g c = λ last.
    subst (λ (x : Keeps). (x.repository.stale ≡ []) × AreGone c.args.self.now.kept.repository.stale (g.T.Store.files c.answer.new.store)) (sym c.set_usable.ensures) (c.in-Ok.ensures.swept last)

pub returns-in-Ok-clause-unchanged : goal.returns-in-Ok-clause-unchanged
returns-in-Ok-clause-unchanged g c =
    let stays = stays-usable c.args.event c.args.self.now.kept c.answer.new.self c.in-Ok.reply c.requires.usable.0 (λ hits. c.in-Ok.ensures.refuses hits None) c.in-Ok.ensures.keeps.unchanged in
    let same : StaysIfRefused c.in-Ok.reply c.args.self.now.kept (with_usable c.answer.new.self (not c.is_end-is_last.result)) =
    subst (λ (b : Bool). StaysIfRefused c.in-Ok.reply c.args.self.now.kept (with_usable c.answer.new.self (not b))) (sym c.is_end-is_last.ensures) stays in
    subst (λ (x : Keeps). StaysIfRefused c.in-Ok.reply c.args.self.now.kept x) (sym c.set_usable.ensures) same

pub returns-in-Ok-clause-intact : goal.returns-in-Ok-clause-intact
returns-in-Ok-clause-intact g c = λ backed whole.
    subst (λ (x : Keeps). IsDeskIntact (g.T.Store.files c.answer.new.store) x) (sym c.set_usable.ensures)
    (usable-intact (g.T.Store.files c.answer.new.store) c.answer.new.self (not c.is_end-is_last.result) (c.in-Ok.ensures.intact backed whole))
