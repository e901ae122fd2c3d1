use Rattle.std.proofs.Common.{◌<◌, ◌*◌, ◌∙◌, ap, subst, sym}
use Rattle.std.proofs.lemmas.Result.{err_from_is_err_and}
use Rattle.disk_index.specs.Blocks.{of_range}
use Rattle.disk_index.specs.Parts.{IsPartBacked, IsPartIntact, IsRangeFaultOf, Source, reads, size, source_of}
use Rattle.merge_job.proofs.CopyLemmas.{range-read}
use Rattle.merge_job.proofs.copying.read.Goals as goal

pub documents-requires : goal.documents-requires
documents-requires g c = subst (λ (p : Source). 64 * c.args.number < size p) (sym c.part.ensures.part) c.requires.within

pub returns-clause-range : goal.returns-clause-range
returns-clause-range g c = range-read (g.T.Store.files c.args.store.now) (source_of c.part.result.now) c.args.marked.now.source c.args.number _ c.part.ensures.part c.in_ok-docs.ensures.kept

pub returns-clause-exact : goal.returns-clause-exact
returns-clause-exact g c = λ backed cached _.
    let told = g.T.Store.files c.args.store.now in
    c.in_ok-docs.ensures.exact (subst (IsPartBacked told) (sym c.part.ensures.part) backed) cached ∙ ap (λ (p : Source). of_range c.args.number (reads told p)) c.part.ensures.part

-- ---- a range that can't be read

pub returns-in_err-docs-clause-honest : goal.returns-in_err-docs-clause-honest
returns-in_err-docs-clause-honest g c = λ intact cached.
    let p = err_from_is_err_and c.from_residual.result c.from_residual.ensures.1 in
    rw (p.1, p.2) (c.in_err-docs.ensures.honest (subst (IsPartIntact (g.T.Store.files c.args.store.now)) (sym c.part.ensures.part) intact) cached)

pub returns-in_err-docs-clause-fault : goal.returns-in_err-docs-clause-fault
returns-in_err-docs-clause-fault g c = λ f told.
    let p = err_from_is_err_and c.from_residual.result c.from_residual.ensures.1 in
    rw (p.1, p.2) (subst (λ (s : Source). IsRangeFaultOf f c.args.cache.now s c.args.number c.in_err-docs.field-0.0) c.part.ensures.part (c.in_err-docs.ensures.fault f told))
