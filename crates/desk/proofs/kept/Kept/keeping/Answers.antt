use Rattle.std.proofs.Common.{◌≡◌, ◌∙◌, Option, sym}
use Rattle.store_ends.specs.Files.{Files}
use Rattle.disk_index.specs.QuietLaws.{IsQuiet-same}
use Rattle.desk.specs.declared.reply.Reply.{Reply}
use Rattle.desk.specs.Backed.{IsDeskBacked, Steps, state_of}
use Rattle.desk.specs.Orders.{IsTrueReply}
use Rattle.desk.specs.Points.{is_inside}
use Rattle.desk.specs.Step.{step}
use Rattle.desk.specs.Told.{RefusesAs, reply_early, told_early}
use Rattle.desk.proofs.EventExits.{early-by, if-ok-all, if-ok-map, never-store, no-clash, outside-memory, true-reading}
use Rattle.desk.proofs.kept.Kept.keeping.Goals as goal

pub returns-then-is_inside-clause-steps : goal.returns-then-is_inside-clause-steps
returns-then-is_inside-clause-steps g c = if-ok-map c.inside.result (λ (r : Reply). (told : Option Files) → IsDeskBacked told c.args.self.now → Steps c.args.event told told c.args.self.now c.inside.new.self r) _ (λ r steps backed plugs. steps (g.T.Store.files c.args.store.now) backed) c.inside.ensures.steps

pub returns-then-is_inside-clause-order : goal.returns-then-is_inside-clause-order
returns-then-is_inside-clause-order g c = if-ok-map c.inside.result (λ (r : Reply). (told : Option Files) → IsDeskBacked told c.args.self.now → IsTrueReply (state_of told c.args.self.now) c.args.event r) (λ (r : Reply). IsDeskBacked (g.T.Store.files c.args.store.now) c.args.self.now → IsTrueReply (state_of (g.T.Store.files c.args.store.now) c.args.self.now) c.args.event r) (λ r order. order (g.T.Store.files c.args.store.now)) c.inside.ensures.order

pub returns-then-is_inside-clause-early : goal.returns-then-is_inside-clause-early
returns-then-is_inside-clause-early g c = if-ok-map c.inside.result (λ (r : Reply). (told : Option Files) → RefusesAs r (step (state_of told c.args.self.now) c.args.event).1) (λ (r : Reply). (told : Option Files) → reply_early r ≡ told_early (step (state_of told c.args.self.now) c.args.event).1)
    (λ r refused told. early-by r (step (state_of told c.args.self.now) c.args.event).1 (refused told)) c.inside.ensures.refuses

pub returns-then-is_inside-clause-quiet : goal.returns-then-is_inside-clause-quiet
returns-then-is_inside-clause-quiet g c = IsQuiet-same g.T.Store.files g.T.Store.layers g.T.Store.clock g.T.Store.since g.T.Store.longest g.T.Store.held g.T.Store.faults c.args.store.now

pub returns-then-is_inside-clause-honest : goal.returns-then-is_inside-clause-honest
returns-then-is_inside-clause-honest g c = λ backed intact. outside-memory c.inside.result c.inside.ensures.memory

pub returns-then-is_inside-clause-store : goal.returns-then-is_inside-clause-store
returns-then-is_inside-clause-store g c = λ is. never-store c.inside.result _ c.inside.ensures.memory is

pub returns-clause-order : goal.returns-clause-order
returns-clause-order g c = if-ok-all c.reading.result (λ (r : Reply). IsDeskBacked (g.T.Store.files c.args.store.now) c.args.self.now → IsTrueReply (state_of (g.T.Store.files c.args.store.now) c.args.self.now) c.args.event r) (λ r backed. true-reading (state_of (g.T.Store.files c.args.store.now) c.args.self.now) c.args.event r (sym c.is_inside.ensures ∙ c.if-is_inside.false))

pub returns-clause-inside : goal.returns-clause-inside
returns-clause-inside g c = λ within. absurd (no-clash (is_inside c.args.event) within (sym c.is_inside.ensures ∙ c.if-is_inside.false))
