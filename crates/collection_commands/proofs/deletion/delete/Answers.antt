use Rattle.std.proofs.Common.{◌∙◌, ap, refl}
use Rattle.std.proofs.lemmas.Bool.{false≢true}
use Rattle.collection_commands.proofs.DeletionLemmas.{absent-piece, absent-reads, deleted-reads, deleted-reply, reads-as, reply-as}
use Rattle.command_pieces.specs.Written.{told_piece}
use Rattle.collection_commands.proofs.deletion.delete.Goals as goal

pub returns-in_ok-deleted_text-in-Ok-clause-reply : goal.returns-in_ok-deleted_text-in-Ok-clause-reply
returns-in_ok-deleted_text-in-Ok-clause-reply c = λ told k reads.
    deleted-reply told c.args.repository.now k c.args.docno c.told.result reads (λ absent. false≢true (c.in-Ok.ensures.refused.1 absent)) (c.told.ensures ∙ ap told_piece c.in_ok-deleted_text-in-Ok.ensures)

pub returns-in_ok-deleted_text-in-Ok-clause-reads : goal.returns-in_ok-deleted_text-in-Ok-clause-reads
returns-in_ok-deleted_text-in-Ok-clause-reads c = λ told k reads.
    deleted-reads told c.args.repository.now c.delete.new.self k c.args.docno reads (λ absent. false≢true (c.in-Ok.ensures.refused.1 absent)) (c.in-Ok.ensures.reads told k reads)

pub returns-in-Err-clause-reply : goal.returns-in-Err-clause-reply
returns-in-Err-clause-reply c = λ told k reads.
    reply-as c.reply_of.result _ _ (absent-piece told c.args.repository.now k c.args.docno reads (c.in-Err.ensures.refused.0 refl)) c.reply_of.ensures

pub returns-in-Err-clause-reads : goal.returns-in-Err-clause-reads
returns-in-Err-clause-reads c = λ told k reads.
    reads-as c.reply_of.result _ (absent-reads told c.args.repository.now c.delete.new.self k c.args.docno reads (c.in-Err.ensures.refused.0 refl) c.in-Err.ensures.kept)
