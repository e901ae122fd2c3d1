use Rattle.std.proofs.Common.{subst}
use Rattle.std.proofs.lemmas.Result.{err_from_is_err_and}
use Rattle.manifest.specs.declared.manifest.PriorEntry.{PriorEntry}
use Rattle.repository.specs.Priors.{IsPriorFault}
use Rattle.repository.specs.Stands.{IsPriorRead}
use Rattle.repository.proofs.PriorLemmas.{honest-rows, one-table, prior-at, prior-read, same-entry, some-prior}
use Rattle.repository.proofs.repository.Repository.prior_rows.Goals as goal

pub returns-clause-rows : goal.returns-clause-rows
returns-clause-rows g c = λ f e told at.
    let same = same-entry c.args.self.now.priors c.args.i c.prior.result.now e c.requires.there c.prior.ensures at in
    subst (λ (y : PriorEntry). IsPriorRead (g.T.Store.files c.args.store.now) y (record { name = y.name; table = c.in_ok-rows.rows })) same (c.in_ok-rows.ensures.rows f told)

pub returns-clause-reads : goal.returns-clause-reads
returns-clause-reads g c = λ col p reads at.
    let told = g.T.Store.files c.args.store.now in
    let listed = prior-at told c.args.self.now.priors col.priors c.args.i c.prior.result.now p reads.priors_are c.requires.there c.prior.ensures at in
    one-table told c.prior.result.now (record { name = c.prior.result.now.name; table = c.in_ok-rows.rows }) p (c.in_ok-rows.ensures.rows listed.files listed.is_told) (prior-read told c.prior.result.now p listed)

pub returns-in_err-rows-clause-fault : goal.returns-in_err-rows-clause-fault
returns-in_err-rows-clause-fault g c = λ f e told at.
    let same = same-entry c.args.self.now.priors c.args.i c.prior.result.now e c.requires.there c.prior.ensures at in
    let p = err_from_is_err_and c.from_residual.result c.from_residual.ensures.1 in
    rw (p.1, p.2) (subst (λ (y : PriorEntry). IsPriorFault f y.number c.in_err-rows.field-0.0) same (c.in_err-rows.ensures.fault f told))

pub returns-in_err-rows-clause-honest : goal.returns-in_err-rows-clause-honest
returns-in_err-rows-clause-honest g c = λ backed.
    let told = g.T.Store.files c.args.store.now in
    let some = some-prior told c.args.self.now.priors backed.priors.0 c.args.i c.prior.result.now backed.priors.1 c.requires.there c.prior.ensures in
    let p = err_from_is_err_and c.from_residual.result c.from_residual.ensures.1 in
    rw (p.1, p.2) (honest-rows told some.1.files c.prior.result.now some.0 c.in_err-rows.field-0.0 (prior-read told c.prior.result.now some.0 some.1) some.1.is_told (c.in_err-rows.ensures.fault some.1.files some.1.is_told))
