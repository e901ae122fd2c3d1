use Rattle.std.proofs.Common.{refl, subst, sym, Option}
use Rattle.store_ends.specs.Files.{Files}
use Rattle.session_events.specs.declared.event.Event.{Event}
use Rattle.desk.specs.declared.reply.Reply.{Reply}
use Rattle.desk.specs.Backed.{IsDeskBacked, IsUsable, state_of}
use Rattle.desk.specs.Keeping.{StaysIfRefused}
use Rattle.desk.specs.Orders.{IsTrueReply}
use Rattle.desk.proofs.EventExits.{if-ok-all, inside-kinds, stays-same}
use Rattle.desk.proofs.Points.{memory-damage, on-ok}
use Rattle.desk.proofs.kept.Kept.inside.Goals as goal

pub returns-in-Document-clause-order : goal.returns-in-Document-clause-order
returns-in-Document-clause-order c = if-ok-all c.add.result (λ (r : Reply). (told : Option Files) → IsDeskBacked told c.args.self.now → IsTrueReply (state_of told c.args.self.now) c.args.event r)
    (λ r told backed. subst (λ (e : Event). IsTrueReply (state_of told c.args.self.now) e r) (sym c.in-Document.is) tt)

pub returns-in-Merge-clause-order : goal.returns-in-Merge-clause-order
returns-in-Merge-clause-order c = if-ok-all c.merge.result (λ (r : Reply). (told : Option Files) → IsDeskBacked told c.args.self.now → IsTrueReply (state_of told c.args.self.now) c.args.event r)
    (λ r told backed. subst (λ (e : Event). IsTrueReply (state_of told c.args.self.now) e r) (sym c.in-Merge.is) tt)

pub returns-in-Delete-clause-order : goal.returns-in-Delete-clause-order
returns-in-Delete-clause-order c = λ told backed. subst (λ (e : Event). IsTrueReply (state_of told c.args.self.now) e c.delete.result) (sym c.in-Delete.is) tt

pub returns-in-Close-clause-order : goal.returns-in-Close-clause-order
returns-in-Close-clause-order c = λ told backed. subst (λ (e : Event). IsTrueReply (state_of told c.args.self.now) e c.close.result) (sym c.in-Close.is) tt

pub unreachable-requires : goal.unreachable-requires
unreachable-requires c = inside-kinds c.args.event c.requires.inside c.in_default.not-Document c.in_default.not-Delete c.in_default.not-Merge c.in_default.not-Show c.in_default.not-Close

pub returns-in-Show-clause-keeps : goal.returns-in-Show-clause-keeps
returns-in-Show-clause-keeps c = record {
  form = c.show.ensures.form;
  kind = refl;
  unchanged = if-ok-all c.show.result (λ (r : Reply). StaysIfRefused r c.args.self.now c.args.self.now) (λ r. stays-same r c.args.self.now c.args.self.now refl);
  usable = on-ok c.show.result (IsUsable c.args.self.now) c.requires.usable;
  undamaged = on-ok c.show.result _ refl;
  damaged = memory-damage c.show.result _ _ refl c.show.ensures.memory;
}

pub returns-in-Show-clause-intact : goal.returns-in-Show-clause-intact
returns-in-Show-clause-intact c = on-ok c.show.result _ (λ told whole. whole)
