use Rattle.std.proofs.Common.{◌≡◌, ℕ, List, ap, length, map, sym, subst, ◌∙◌, arith}
use Rattle.std.proofs.lemmas.List.{length-map}
use Rattle.manifest.specs.declared.manifest.PriorEntry.{PriorEntry}
use Rattle.query_check.specs.Answers.{whole_checked}
use Rattle.desk.specs.Shown.{told_shown}
use Rattle.indri_app.specs.Command.{IsQuery}
use Rattle.indri_app.proofs.AskingLemmas.{asked-of, names-listed, text-not_store, text-only, text-refused, text-want}
use Rattle.indri_app.proofs.question.ask_open.Goals as goal

pub read_checked-requires : goal.read_checked-requires
read_checked-requires g c =
    record { few = omega (arith, ap length c.deref.ensures.value, ap length c.in-Ok.ensures, length-map c.priors.result.now (λ (e : PriorEntry). e.name), ap length c.priors.ensures.list, c.priors.ensures.few c.requires.usable) }

-- its text is refused

pub returns-in-Err-clause-refused : goal.returns-in-Err-clause-refused
returns-in-Err-clause-refused g c = λ k reads backed.
    let told = g.T.Store.files c.args.store.now in
    let names = c.deref.ensures.value ∙ c.in-Ok.ensures ∙ ap (map (λ (e : PriorEntry). e.name)) c.priors.ensures.list ∙ names-listed told c.args.repository.now.priors k.priors reads.priors_are in
    rw c.ask_fault.ensures (text-refused k c.args.text.now _ c.in-Err.fault names c.in-Err.ensures.refused)

pub returns-in-Err-clause-honest : goal.returns-in-Err-clause-honest
returns-in-Err-clause-honest g c = λ intact. rw c.ask_fault.ensures (text-want c.in-Err.fault)

pub returns-in-Err-clause-only : goal.returns-in-Err-clause-only
returns-in-Err-clause-only g c = rw c.ask_fault.ensures (text-only c.in-Err.fault)

pub returns-in-Err-clause-store : goal.returns-in-Err-clause-store
returns-in-Err-clause-store g c = λ e. absurd (text-not_store c.in-Err.fault cc)

-- it is answered

pub returns-in-Ok-answer_checked-clause-asked : goal.returns-in-Ok-answer_checked-clause-asked
returns-in-Ok-answer_checked-clause-asked g c = λ k reads backed priors.
    let told = g.T.Store.files c.args.store.now in
    let names = c.deref-2.ensures.value ∙ c.in-Ok.ensures ∙ ap (map (λ (e : PriorEntry). e.name)) c.priors.ensures.list ∙ names-listed told c.args.repository.now.priors k.priors reads.priors_are in
    let same : c.deref.result.now ≡ c.deref-2.result.now = c.deref.ensures.value ∙ sym c.deref-2.ensures.value in
    let read = subst (λ (ns : List (List ℕ)). IsQuery ns c.args.text.now (whole_checked c.in-Ok-read_checked.checked)) same c.in-Ok-read_checked.ensures.read in
    asked-of k c.args.text.now c.args.mu (told_shown c.args.shown.now) _ _ _ (whole_checked c.in-Ok-read_checked.checked) c.in-Ok-answer_checked.reply priors names reads.live_are read (c.in-Ok-answer_checked.ensures.answered backed)
