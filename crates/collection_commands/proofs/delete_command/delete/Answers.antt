use Rattle.std.proofs.Common.{sym, subst}
use Rattle.docno_lines.specs.Docnos.{docnos_at}
use Rattle.repository.specs.RealLimits.{AreReal}
use Rattle.collection_commands.specs.Deletions.{behind_lines, line_pieces}
use Rattle.collection_commands.proofs.ChangeLemmas.{ahead-some, changed-refused, flushed-broken, flushed-finished, flushed-stops, unchanged-broken, unchanged-stops}
use Rattle.collection_commands.proofs.delete_command.delete.Goals as goal

-- the lines are broken off

pub returns-in-Err-clause-broken : goal.returns-in-Err-clause-broken
returns-in-Err-clause-broken g c = λ k ahead.
    unchanged-broken (λ bytes. line_pieces k (docnos_at 0 bytes)) (λ bytes. behind_lines k (docnos_at 0 bytes)) k c.in-Err.fault _ _ _ _ _ c.of_items.ensures (c.in-Err.ensures.broken _ k ahead.reads) ahead.stands

pub returns-in-Err-clause-stops : goal.returns-in-Err-clause-stops
returns-in-Err-clause-stops g c = λ k ahead.
    unchanged-stops (λ bytes. line_pieces k (docnos_at 0 bytes)) (λ bytes. behind_lines k (docnos_at 0 bytes)) k _ _

-- they are done

pub returns-in-Ok-commit-clause-refused : goal.returns-in-Ok-commit-clause-refused
returns-in-Ok-commit-clause-refused g c = λ k ahead.
    changed-refused (λ bytes. line_pieces k (docnos_at 0 bytes)) (λ bytes. behind_lines k (docnos_at 0 bytes)) k _ _ (c.in-Ok.ensures.refused _ k ahead.reads)

pub returns-in-Ok-commit-clause-finished : goal.returns-in-Ok-commit-clause-finished
returns-in-Ok-commit-clause-finished g c = λ k ahead.
    let told = g.T.Store.files c.args.store.now in
    let done = c.in-Ok.ensures in
    let there = ahead-some (λ bytes. behind_lines k (docnos_at 0 bytes)) told c.take_docnos.new.repository k _ (c.take_docnos.ensures.backed told ahead.backed) (subst AreReal (sym c.take_docnos.ensures.limits) ahead.real) ahead.stands (done.reads told k ahead.reads) in
    flushed-finished (λ bytes. line_pieces k (docnos_at 0 bytes)) (λ bytes. behind_lines k (docnos_at 0 bytes)) k told c.take_docnos.new.repository _ _ _ _ _ there (done.finished told k ahead.reads) ahead.stands c.in-Ok-commit.ensures.finished

pub returns-in-Ok-commit-clause-stops : goal.returns-in-Ok-commit-clause-stops
returns-in-Ok-commit-clause-stops g c = λ k ahead.
    let told = g.T.Store.files c.args.store.now in
    let done = c.in-Ok.ensures in
    let there = ahead-some (λ bytes. behind_lines k (docnos_at 0 bytes)) told c.take_docnos.new.repository k _ (c.take_docnos.ensures.backed told ahead.backed) (subst AreReal (sym c.take_docnos.ensures.limits) ahead.real) ahead.stands (done.reads told k ahead.reads) in
    flushed-stops (λ bytes. line_pieces k (docnos_at 0 bytes)) (λ bytes. behind_lines k (docnos_at 0 bytes)) k told c.take_docnos.new.repository _ _ _ there c.commit.ensures.stops

-- the flush is broken off

pub returns-in-Err-commit-clause-broken : goal.returns-in-Err-commit-clause-broken
returns-in-Err-commit-clause-broken g c = λ k ahead.
    let told = g.T.Store.files c.args.store.now in
    let done = c.in-Ok.ensures in
    let there = ahead-some (λ bytes. behind_lines k (docnos_at 0 bytes)) told c.take_docnos.new.repository k _ (c.take_docnos.ensures.backed told ahead.backed) (subst AreReal (sym c.take_docnos.ensures.limits) ahead.real) ahead.stands (done.reads told k ahead.reads) in
    flushed-broken (λ bytes. line_pieces k (docnos_at 0 bytes)) (λ bytes. behind_lines k (docnos_at 0 bytes)) k c.in-Err-commit.fault told c.take_docnos.new.repository _ _ _ _ _ there (done.finished told k ahead.reads) ahead.stands c.in-Err-commit.ensures.broken

pub returns-in-Err-commit-clause-stops : goal.returns-in-Err-commit-clause-stops
returns-in-Err-commit-clause-stops g c = λ k ahead.
    let told = g.T.Store.files c.args.store.now in
    let done = c.in-Ok.ensures in
    let there = ahead-some (λ bytes. behind_lines k (docnos_at 0 bytes)) told c.take_docnos.new.repository k _ (c.take_docnos.ensures.backed told ahead.backed) (subst AreReal (sym c.take_docnos.ensures.limits) ahead.real) ahead.stands (done.reads told k ahead.reads) in
    flushed-stops (λ bytes. line_pieces k (docnos_at 0 bytes)) (λ bytes. behind_lines k (docnos_at 0 bytes)) k told c.take_docnos.new.repository _ _ _ there c.commit.ensures.stops
