use Rattle.std.proofs.Common.{Err, ap}
use Rattle.disk_index.proofs.CacheLemmas.{new-cache}
use Rattle.indri_app.proofs.OpeningLemmas.{file-of}
use Rattle.indri_app.proofs.OpeningLemmas.{store-of_files, want-of}
use Rattle.indri_app.proofs.question.answer_checked.Goals as goal

-- a file isn't read

pub returns-in-Err-clause-honest : goal.returns-in-Err-clause-honest
returns-in-Err-clause-honest g c = λ intact. rw c.of_files.ensures (want-of c.in-Err.fault (c.in-Err.ensures.honest (c.in-Ok.ensures.stored_intact _ intact) (new-cache _ c.in-Ok-block_cache.cache c.in-Ok-block_cache.ensures)))

pub returns-in-Err-clause-only : goal.returns-in-Err-clause-only
returns-in-Err-clause-only g c = rw c.of_files.ensures (file-of c.in-Err.fault)

pub returns-in-Err-clause-store : goal.returns-in-Err-clause-store
returns-in-Err-clause-store g c = λ e. let one = store-of_files c.in-Err.fault cc in c.in-Err.ensures.store (ap Err one)

-- it is answered

pub returns-in-Ok-reply_to-clause-answered : goal.returns-in-Ok-reply_to-clause-answered
returns-in-Ok-reply_to-clause-answered g c = λ backed.
    let told = g.T.Store.files c.args.store.now in
    (_, rw (c.in-Ok.ensures.documents told) at (c.in-Ok-answer.ensures.exact (c.in-Ok.ensures.stored told backed) (new-cache told c.in-Ok-block_cache.cache c.in-Ok-block_cache.ensures)), c.in-Ok-reply_to.ensures)
