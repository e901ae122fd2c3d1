use Rattle.std.proofs.Common.{◌≡◌, List, ℕ, Ok, Err, subst, arith}
use Rattle.std.proofs.lemmas.Result.{err_from_is_err_and}
use Rattle.disk_index.specs.Rebuild.{put_places}
use Rattle.disk_index.proofs.RebuildLemmas.{entry-past, entry-step, entry-stop}
use Rattle.disk_index.proofs.rebuild.put_entry.Goals as goal

pub returns-then-row-len-clause-err : goal.returns-then-row-len-clause-err
returns-then-row-len-clause-err c = entry-past c.args.begin c.args.rank c.args.entry.now c.args.rows.now.items (omega arith)

pub returns-in_err-put_places-clause-err : goal.returns-in_err-put_places-clause-err
returns-in_err-put_places-clause-err c =
    let p = err_from_is_err_and c.from_residual.result c.from_residual.ensures.1 in
    rw (p.1, p.2) (entry-stop c.args.begin c.args.rank c.args.entry.now c.args.rows.now.items _ c.index_mut.result.now _ (omega arith) (omega arith) c.index_mut.ensures.value
    (subst (λ (ps : List ℕ). put_places c.args.begin c.args.rank ps c.index_mut.result.now ≡ Err c.in_err-put_places.field-0.0.place) c.as_slice.ensures c.in_err-put_places.ensures.err))

pub returns-clause-ok : goal.returns-clause-ok
returns-clause-ok c =
    entry-step c.args.begin c.args.rank c.args.entry.now c.args.rows.now.items _ c.index_mut.result.now c.put_places.new.slots (omega arith) (omega arith) c.index_mut.ensures.value
    (subst (λ (ps : List ℕ). put_places c.args.begin c.args.rank ps c.index_mut.result.now ≡ Ok c.put_places.new.slots) c.as_slice.ensures c.in_ok-put_places.ensures.ok)
