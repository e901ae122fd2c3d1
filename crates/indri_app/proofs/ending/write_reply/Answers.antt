use Rattle.std.proofs.Common.{◌≡◌, ℕ, ◌∷◌, [], Bool, true, false, Err, List, Ok, Option, ap, sym, ◌∙◌}
use Rattle.command_pieces.proofs.Joining.{refused-one}
use Rattle.command_pieces.specs.declared.fault.Fault.TheVariants as items
use Rattle.indri_app.specs.Runs.{IsEnded, items_answer}
use Rattle.indri_app.specs.declared.status.Status.{Status}
use Rattle.indri_app.specs.declared.status.Status.TheVariants as status
use Rattle.indri_app.proofs.Ended.{rose-later, write-ended}
use Rattle.indri_app.proofs.PlainRuns.{ended-writes, items-reply, items-write}
use Rattle.indri_app.proofs.ending.write_reply.Goals as goal

done-not_written : (refused : Bool) (s : Status) (mid now : Option (List ℕ)) (b z : ℕ) → IsEnded (items_answer (Ok refused)) s mid now b z → s ≡ status.WriteFault → ⊥
done-not_written false s mid now b z (w, same) e = cc
done-not_written true s mid now b z (w, same) e = cc

-- it is written

pub returns-in-Ok-clause-written : goal.returns-in-Ok-clause-written
returns-in-Ok-clause-written g c =
    ended-writes (Ok c.is_refusal.result) _ (c.args.reply.now ∷ []) _ _ _ _ _ _ c.write.ensures.later (c.is_refusal.ensures ∙ sym (refused-one c.args.reply.now)) c.in-Ok.ensures.finished tt c.finish_items.ensures.ended

pub returns-in-Ok-clause-only : goal.returns-in-Ok-clause-only
returns-in-Ok-clause-only g c = items-reply (Ok c.is_refusal.result) _ _ _ _ _ (λ e. cc) c.finish_items.ensures.ended

pub returns-in-Ok-clause-write : goal.returns-in-Ok-clause-write
returns-in-Ok-clause-write g c = λ is. absurd (done-not_written c.is_refusal.result _ _ _ _ _ c.finish_items.ensures.ended is)

-- it isn't

pub returns-in-Err-clause-written : goal.returns-in-Err-clause-written
returns-in-Err-clause-written g c =
    ended-writes (Err c.in-Err.fault) _ (c.args.reply.now ∷ []) _ _ _ _ _ _ c.write.ensures.later tt tt c.in-Err.ensures.broken c.finish_items-in-Err.ensures.ended

pub returns-in-Err-clause-only : goal.returns-in-Err-clause-only
returns-in-Err-clause-only g c = items-reply (Err c.in-Err.fault) _ _ _ _ _ (λ e. let one : c.in-Err.fault ≡ items.Read = cc in c.in-Err.ensures.no_read (ap Err one)) c.finish_items-in-Err.ensures.ended

pub returns-in-Err-clause-write : goal.returns-in-Err-clause-write
returns-in-Err-clause-write g c = λ is.
    let ends = items-write (Err c.in-Err.fault) (write-ended (items_answer (Err c.in-Err.fault)) _ _ _ _ _ c.finish_items-in-Err.ensures.ended is) in
    let one : c.in-Err.fault ≡ items.Write = cc in
    rose-later _ _ _ (c.in-Err.ensures.cause (ap Err one)) c.finish_items-in-Err.ensures.later
