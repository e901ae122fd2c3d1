-- The lines of a reply are those of what it shows.
use Rattle.std.proofs.Common.{◌≡◌, ◌∙◌, ◌++◌, ℕ, List, Result, Ok, Err, IfOk, OnOk, ap, subst}
use Rattle.ri_base.specs.declared.seg_fault.SegFault.{SegFault}
use Rattle.session_events.specs.declared.event.Event.TheVariants as event
use Rattle.generated_events.specs.Documents.{kept_documents}
use Rattle.generated_events.specs.Events.{last_event, name}
use Rattle.script_reader.specs.declared.item.Item.TheVariants as item
use Rattle.desk.specs.Orders.{IsTrueReply}
use Rattle.desk.specs.State.{State}
use Rattle.desk.specs.Step.{step}
use Rattle.desk.specs.Told as told
use Rattle.desk.specs.Told.{Shows, Told}
use Rattle.desk.specs.declared.reply.Reply.{Reply}
use Rattle.indri_app.specs.GeneratedTexts.{reply_lines, summary_text, told_lines}
use Rattle.indri_app.specs.Orders.{IsTrueItem}
use Rattle.indri_app.proofs.StepLemmas.{true-step}
use Rattle.indri_app.proofs.TextLemmas.{hits-text}

lines-shown : (t : Told) (r : Reply) → Shows t r → reply_lines r ≡ told_lines t
lines-shown (told.added docno tokens) r shows = ap reply_lines shows
lines-shown (told.deleted docno) r shows = ap reply_lines shows
lines-shown (told.flushed live) r shows = ap reply_lines shows
lines-shown (told.merging size) r shows = ap reply_lines shows
lines-shown (told.turned credit size) r shows = ap reply_lines shows
lines-shown (told.merged live) r shows = ap reply_lines shows
lines-shown (told.opened query live) r shows = ap reply_lines shows
lines-shown (told.stepped query credit live) r shows = ap reply_lines shows
lines-shown (told.results query scale entries) r shows = ap reply_lines shows.1.0 ∙ hits-text scale shows.0 entries shows.1.1
lines-shown (told.explained line) r shows = ap reply_lines shows.1.0
lines-shown (told.extents found) r shows = ap reply_lines shows
lines-shown (told.closed query) r shows = ap reply_lines shows
lines-shown (told.ended live) r shows = ap reply_lines shows
lines-shown (told.refused why) r shows = ap reply_lines shows

-- what is written of a reply
pub text-shown : (n : ℕ) (s : State) (r : Reply) (text : List ℕ) → text ≡ summary_text n (kept_documents n) ++ reply_lines r → Shows (step s last_event).1 r → text ≡ summary_text n (kept_documents n) ++ told_lines (step s last_event).1
text-shown n s r text is shows = is ∙ ap (λ ls. summary_text n (kept_documents n) ++ ls) (lines-shown (step s last_event).1 r shows)

-- the query's name is that of the last event
pub shown-named : (s : State) (n : List ℕ) (r : Result Reply SegFault) → n ≡ name → IfOk r (λ reply. Shows (step s (event.Show n)).1 reply) → IfOk r (λ reply. Shows (step s last_event).1 reply)
shown-named s n r is shows = subst (λ x. IfOk r (λ reply. Shows (step s (event.Show x)).1 reply)) is shows

pub order-named : (s : State) (n : List ℕ) (r : Result Reply SegFault) → n ≡ name → IfOk r (λ reply. Shows (step s (event.Show n)).1 reply) → IfOk r (λ reply. IsTrueReply s (event.Show n) reply) → OnOk r (IsTrueItem s (item.Event last_event))
order-named s n (Ok reply) is shows order = subst (λ x. IsTrueItem s (item.Event (event.Show x))) is (true-step s (event.Show n) reply shows order)
order-named s n (Err fault) is shows order = tt
