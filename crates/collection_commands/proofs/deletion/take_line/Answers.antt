use Rattle.std.proofs.Common.{subst}
use Rattle.repository.specs.States.{ReadsAs}
use Rattle.collection_commands.proofs.DeletionLemmas.{bad-behind, bad-piece, long-behind, long-piece, reads-as, reply-as}
use Rattle.collection_commands.proofs.deletion.take_line.Goals as goal

pub returns-in-BadEvent-clause-reply : goal.returns-in-BadEvent-clause-reply
returns-in-BadEvent-clause-reply c = λ told k reads. reply-as c.reply_of.result _ _ (bad-piece k c.args.line c.in-BadEvent.place c.in-BadEvent.is) c.reply_of.ensures

pub returns-in-BadEvent-clause-reads : goal.returns-in-BadEvent-clause-reads
returns-in-BadEvent-clause-reads c = λ told k reads. reads-as c.reply_of.result _ (subst (ReadsAs told c.args.repository.now) (bad-behind k c.args.line c.in-BadEvent.place c.in-BadEvent.is) reads)

pub returns-in-LineTooLong-clause-reply : goal.returns-in-LineTooLong-clause-reply
returns-in-LineTooLong-clause-reply c = λ told k reads. reply-as c.reply_of-in-LineTooLong.result _ _ (long-piece k c.args.line c.in-LineTooLong.place c.in-LineTooLong.is) c.reply_of-in-LineTooLong.ensures

pub returns-in-LineTooLong-clause-reads : goal.returns-in-LineTooLong-clause-reads
returns-in-LineTooLong-clause-reads c = λ told k reads. reads-as c.reply_of-in-LineTooLong.result _ (subst (ReadsAs told c.args.repository.now) (long-behind k c.args.line c.in-LineTooLong.place c.in-LineTooLong.is) reads)
