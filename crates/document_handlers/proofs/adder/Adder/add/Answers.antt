use Rattle.std.proofs.Common.{◌∙◌, Err, ap}
use Rattle.command_pieces.specs.Written.{told_piece}
use Rattle.document_handlers.proofs.AdditionLemmas.{added-reads, added-reply, full-is, refused-reads, refused-reply, repeated-is, same-limits}
use Rattle.document_handlers.proofs.adder.Adder.add.Goals as goal

pub returns-in_ok-added_text-in-Ok-clause-reply : goal.returns-in_ok-added_text-in-Ok-clause-reply
returns-in_ok-added_text-in-Ok-clause-reply c told c' reads =
    added-reply told c.args.self.now.repository c' c.args.doc.now c.add.result _ reads c.add.ensures.answer c.in-Ok.is (c.told.ensures ∙ ap told_piece c.in_ok-added_text-in-Ok.ensures)

pub returns-in_ok-added_text-in-Ok-clause-reads : goal.returns-in_ok-added_text-in-Ok-clause-reads
returns-in_ok-added_text-in-Ok-clause-reads c told c' reads =
    added-reads told c.args.self.now.repository c.add.new.self c' c.args.doc.now c.add.result reads c.add.ensures.answer c.in-Ok.is (c.in-Ok.ensures.reads told c' reads)

pub returns-in-Err-Repeated-clause-reply : goal.returns-in-Err-Repeated-clause-reply
returns-in-Err-Repeated-clause-reply c told c' reads =
    let is = c.in-Err-Repeated.is ∙ ap Err c.in-Err-Repeated.field-0-is in
    refused-reply c.reply_of.result _ _ (repeated-is told c.args.self.now.repository c' c.args.doc.now c.add.result _ reads c.add.ensures.answer is) c.reply_of.ensures

pub returns-in-Err-Repeated-clause-reads : goal.returns-in-Err-Repeated-clause-reads
returns-in-Err-Repeated-clause-reads c told c' reads =
    let is = c.in-Err-Repeated.is ∙ ap Err c.in-Err-Repeated.field-0-is in
    refused-reads c.reply_of.result told _ _ c' _ _ reads (repeated-is told c.args.self.now.repository c' c.args.doc.now c.add.result _ reads c.add.ensures.answer is) c.in-Err-Repeated.ensures.kept

pub returns-in-Err-CollectionFull-clause-reply : goal.returns-in-Err-CollectionFull-clause-reply
returns-in-Err-CollectionFull-clause-reply c told c' reads =
    let is = c.in-Err-CollectionFull.is ∙ ap Err c.in-Err-CollectionFull.field-0-is in
    refused-reply c.reply_of-in-Err-CollectionFull.result _ _ (full-is told c.args.self.now.repository c' c.args.doc.now c.add.result _ reads c.add.ensures.answer is) c.reply_of-in-Err-CollectionFull.ensures

pub returns-in-Err-CollectionFull-clause-reads : goal.returns-in-Err-CollectionFull-clause-reads
returns-in-Err-CollectionFull-clause-reads c told c' reads =
    let is = c.in-Err-CollectionFull.is ∙ ap Err c.in-Err-CollectionFull.field-0-is in
    refused-reads c.reply_of-in-Err-CollectionFull.result told _ _ c' _ _ reads (full-is told c.args.self.now.repository c' c.args.doc.now c.add.result _ reads c.add.ensures.answer is) c.in-Err-CollectionFull.ensures.kept

pub returns-in-Err-CollectionFull-clause-limits : goal.returns-in-Err-CollectionFull-clause-limits
returns-in-Err-CollectionFull-clause-limits c = same-limits c.reply_of-in-Err-CollectionFull.result _ _ c.in-Err-CollectionFull.ensures.kept
