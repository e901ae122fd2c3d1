use Rattle.std.proofs.Common.{◌∙◌, ◌*◌, ◌-◌, ◌^◌, min, length, refl, ap, sym}
use Rattle.std.proofs.lemmas.Result.{err_from_is_err_and}
use Rattle.disk_index.specs.Rebuild.{behind, put_entry}
use Rattle.disk_index.proofs.RebuildLemmas.{behind-places, entries-end, entries-step}
use Rattle.disk_index.proofs.rebuild.put_block.Goals as goal

pub returns-in_err-put_entry-clause-err : goal.returns-in_err-put_entry-clause-err
returns-in_err-put_entry-clause-err c =
    let p = err_from_is_err_and c.from_residual.result c.from_residual.ensures.1 in
    let e = c.entry-item.result in
    let at = c.loop-entry.at in
    let next = behind (behind at 5) (4 * length e.positions) in
    let put = ap (λ n. put_entry n c.args.rank e c.loop-entry.rows.items) (sym c.saturating_add-at-in-loop-entry.ensures) ∙ c.in_err-put_entry.ensures.err in
    rw (p.1, p.2) (sym (entries-step at next c.args.rank c.args.entries.now c.loop-entry.entry-index e c.loop-entry.rows.items _ _ c.loop-entry-test.true c.entry-item.is refl put c.loop-entry.invariant))

pub loop-entry-preserved : goal.loop-entry-preserved
loop-entry-preserved c =
    let e = c.entry-item.result in
    let at = c.loop-entry.at in
    let put = ap (λ n. put_entry n c.args.rank e c.loop-entry.rows.items) (sym c.saturating_add-at-in-loop-entry.ensures) ∙ c.in_ok-put_entry.ensures.ok in
    let on = behind-places at _ _ (length e.positions) _ c.saturating_add-at-in-loop-entry.ensures (c.saturating_mul.ensures ∙ ap (λ n. min (n * 4) (2 ^ 64 - 1)) c.len.ensures) c.saturating_add-at-in-loop-entry-2.ensures in
    entries-step at c.saturating_add-at-in-loop-entry-2.result c.args.rank c.args.entries.now c.loop-entry.entry-index e c.loop-entry.rows.items _ _ c.loop-entry-test.true c.entry-item.is on put c.loop-entry.invariant

pub returns-clause-ok : goal.returns-clause-ok
returns-clause-ok c = entries-end _ c.args.rank c.args.entries.now c.loop-entry.entry-index c.loop-entry.rows.items _ c.loop-entry-test.false c.loop-entry.invariant
