use Rattle.std.proofs.Common.{◌≡◌, false, ap, sym, subst, ◌∙◌}
use Rattle.belief_nodes.specs.Priors.{Prior, has_row, with_row}
use Rattle.manifest.specs.Priors.{row_of}
use Rattle.desk.proofs.PriorLemmas.{no-row-yet, row-at, row-next}
use Rattle.desk.proofs.kept_priors.take_rows.Goals as goal

pub take_row-requires-clause-new : goal.take_row-requires-clause-new
take_row-requires-clause-new g c =
    let r = row_of c.row-item.result in
    let i = c.loop-row.row-index in
    let at = row-at c.rows-row-items.result.now c.args.rows.now.rows i c.row-item.result c.rows-row-items.ensures.same c.loop-row-test.true c.row-item.is in
    subst (λ (p : Prior). has_row p r.docno ≡ false) (sym c.loop-row.invariant) (no-row-yet c.args.rows.now i r c.rows-row-items.ensures.form at.0 at.1 (record { p = 1; q = 1 }))

pub loop-row-preserved : goal.loop-row-preserved
loop-row-preserved g c =
    let r = row_of c.row-item.result in
    let i = c.loop-row.row-index in
    let at = row-at c.rows-row-items.result.now c.args.rows.now.rows i c.row-item.result c.rows-row-items.ensures.same c.loop-row-test.true c.row-item.is in
    c.in_ok-take_row.ensures ∙ ap (λ (p : Prior). with_row p r.docno r.belief) c.loop-row.invariant ∙ row-next c.args.rows.now.rows i r (record { p = 1; q = 1 }) at.0 at.1
