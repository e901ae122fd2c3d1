use Rattle.std.proofs.Common.{◌∙◌, refl, arith}
use Rattle.std.proofs.lemmas.Result.{err_from_is_err_and}
use Rattle.disk_index.proofs.OpeningLaws.{length_told, never_refused, opened_as}
use Rattle.disk_index.proofs.ReadingLemmas.{open-read_fault}
use Rattle.disk_index.proofs.index.DiskIndex.open.Goals as goal

pub returns-in_err-size-clause-fault : goal.returns-in_err-size-clause-fault
returns-in_err-size-clause-fault g c = λ f told.
    let p = err_from_is_err_and c.from_residual.result c.from_residual.ensures.1 in
    rw (p.1, p.2) (open-read_fault f c.args.number c.args.docs c.in_err-size.field-0.0 (c.in_err-size.ensures.fault f told))

pub returns-in_err-size-clause-honest : goal.returns-in_err-size-clause-honest
returns-in_err-size-clause-honest g c = λ ds s few.
    let p = err_from_is_err_and c.from_residual.result c.from_residual.ensures.1 in
    rw (p.1, p.2) (length_told (g.T.Store.files c.args.store.now) c.args.number ds s c.in_err-size.field-0.0 (c.in_err-size.ensures.fault s.files s.is_told))

pub returns-in_err-parts-clause-fault : goal.returns-in_err-parts-clause-fault
returns-in_err-parts-clause-fault g c = λ f told.
    let p = err_from_is_err_and c.from_residual-in_err-parts.result c.from_residual-in_err-parts.ensures.1 in
    rw (p.1, p.2) (c.in_err-parts.ensures.fault f (c.in_ok-size.ensures.quiet.same_files ∙ told) (c.in_ok-size.ensures.length f told))

pub returns-in_err-parts-clause-honest : goal.returns-in_err-parts-clause-honest
returns-in_err-parts-clause-honest g c = λ ds s few.
    let is = c.in_ok-size.ensures.length s.files s.is_told in
    let p = err_from_is_err_and c.from_residual-in_err-parts.result c.from_residual-in_err-parts.ensures.1 in
    rw (p.1, p.2) (never_refused (g.T.Store.files c.args.store.now) c.args.number c.args.docs c.in_ok-size.size ds s few is (omega arith) c.in_err-parts.field-0.0
    (c.in_err-parts.ensures.fault s.files (c.in_ok-size.ensures.quiet.same_files ∙ s.is_told) is))

pub returns-clause-exact : goal.returns-clause-exact
returns-clause-exact g c = λ ds s few.
    let is = c.in_ok-size.ensures.length s.files s.is_told in
    c.in_ok-of.ensures ∙ opened_as (g.T.Store.files c.args.store.now) c.args.number c.args.docs c.in_ok-size.size ds s few is (omega arith)
    (record { number = c.args.number; outlines = c.in_ok-parts.parts.documents; dictionary = c.in_ok-parts.parts.dictionary; begin = c.in_ok-parts.parts.blocks_at }) refl
    (c.in_ok-parts.ensures.found s.files (c.in_ok-size.ensures.quiet.same_files ∙ s.is_told) is)
