use Rattle.std.proofs.Common.{◌≡◌, ◌∙◌, subst, sym}
use Rattle.std.proofs.lemmas.Result.{IfOk-weaker}
use Rattle.command_pieces.specs.Written.{Plain}
use Rattle.refusals.specs.Lines.{refusal_piece}
use Rattle.refusals.specs.declared.refusal.Refusal.TheVariants.{Document, Input}
use Rattle.script_reader.specs.declared.item.Item.{Item}
use Rattle.desk.specs.State.{State}
use Rattle.indri_app.specs.Items.{IsNoEvent, item_reply, unread_reply}
use Rattle.indri_app.proofs.StepLemmas.{token-reply, trec-reply, unread-reply}
use Rattle.indri_app.proofs.turn.tell_other.Goals as goal

pub returns-in-Unread-clause-piece : goal.returns-in-Unread-clause-piece
returns-in-Unread-clause-piece c = IfOk-weaker c.tell_unread.result (λ (p : Plain). p ≡ unread_reply c.in-Unread.kind c.in-Unread.place) (λ p. (s : State) → p ≡ item_reply s c.args.item)
    (λ p is s. is ∙ subst (λ (i : Item). unread_reply c.in-Unread.kind c.in-Unread.place ≡ item_reply s i) (sym c.in-Unread.is) (unread-reply s c.in-Unread.kind c.in-Unread.place)) c.tell_unread.ensures.piece

pub returns-in-Trec-clause-piece : goal.returns-in-Trec-clause-piece
returns-in-Trec-clause-piece c = IfOk-weaker c.tell_refusal.result (λ (p : Plain). p ≡ refusal_piece (Input c.in-Trec.refusal)) (λ p. (s : State) → p ≡ item_reply s c.args.item)
    (λ p is s. is ∙ subst (λ (i : Item). refusal_piece (Input c.in-Trec.refusal) ≡ item_reply s i) (sym c.in-Trec.is) (trec-reply s c.in-Trec.refusal)) c.tell_refusal.ensures.piece

pub returns-in-Token-clause-piece : goal.returns-in-Token-clause-piece
returns-in-Token-clause-piece c = IfOk-weaker c.tell_refusal-in-Token.result (λ (p : Plain). p ≡ refusal_piece (Document c.in-Token.refusal)) (λ p. (s : State) → p ≡ item_reply s c.args.item)
    (λ p is s. is ∙ subst (λ (i : Item). refusal_piece (Document c.in-Token.refusal) ≡ item_reply s i) (sym c.in-Token.is) (token-reply s c.in-Token.refusal)) c.tell_refusal-in-Token.ensures.piece

pub unreachable-requires : goal.unreachable-requires
unreachable-requires c = subst IsNoEvent c.in-Event.is c.requires
