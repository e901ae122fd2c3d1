use Rattle.std.proofs.Common.{◌≡◌, ◌∙◌, Option, Some, subst, sym}
use Rattle.std.specs.List.{AllZip}
use Rattle.std.proofs.lemmas.Result.{err_from_is_err_and}
use Rattle.store_ends.specs.Files.{Files}
use Rattle.repository.specs.Opening.{IsRepositoryOpened}
use Rattle.repository.specs.Stands.{IsListed, IsManifestRead}
use Rattle.repository.proofs.ManifestLemmas.{manifest-read}
use Rattle.repository.proofs.OpenLemmas.{backed-opened, found-held, found-listed, none-there, opening-fault, reads-opened}
use Rattle.repository.proofs.repository.Repository.open.Given as given
use Rattle.repository.proofs.repository.Repository.open.Goals as goal
use Rattle.repository.proofs.repository.Repository.open.Goals.{In-Some}

-- the manifest that was found stays there
has : (g : given.Over) (c : In-Some g) (f : Files) → g.T.Store.files c.args.store.now ≡ Some f → IsManifestRead (g.T.Store.files c.args.store.now) c.in-Some.list
has g c f is = rw c.in-Some.is at (c.in_ok-find_manifest.ensures.found f is)

there : (g : given.Over) (c : In-Some g) (f : Files) → g.T.Store.files c.args.store.now ≡ Some f → IsManifestRead (g.T.Store.files c.find_manifest.new.store) c.in-Some.list
there g c f is = subst (λ (o : Option Files). IsManifestRead o c.in-Some.list) (sym c.find_manifest.ensures.quiet.same_files) (has g c f is)

pub returns-in_err-find_manifest-clause-honest : goal.returns-in_err-find_manifest-clause-honest
returns-in_err-find_manifest-clause-honest g c = λ col stands.
    let p = err_from_is_err_and c.from_residual.result c.from_residual.ensures.1 in
    rw (p.1, p.2) (c.in_err-find_manifest.ensures.honest stands.list (manifest-read (g.T.Store.files c.args.store.now) stands.list stands.has))

pub returns-in_err-of_manifest-in-Some-clause-honest : goal.returns-in_err-of_manifest-in-Some-clause-honest
returns-in_err-of_manifest-in-Some-clause-honest g c = λ col stands.
    let told = g.T.Store.files c.args.store.now in
    let same = c.find_manifest.ensures.quiet.same_files in
    let found = has g (goal.at.returns-in_err-of_manifest-in-Some-clause-honest g c).In-Some stands.has.files stands.has.is_told in
    let listed = subst (λ (o : Option Files). AllZip (IsListed o) c.in-Some.list.segments stands.segments) (sym same) (found-listed c.args.limits told c.in-Some.list col found stands) in
    let p = err_from_is_err_and c.from_residual-in_err-of_manifest-in-Some.result c.from_residual-in_err-of_manifest-in-Some.ensures.1 in
    rw (p.1, p.2) (c.in_err-of_manifest-in-Some.ensures.honest stands.segments col listed (found-held c.args.limits told c.in-Some.list col found stands))

pub returns-in_err-of_manifest-in-Some-clause-fault : goal.returns-in_err-of_manifest-in-Some-clause-fault
returns-in_err-of_manifest-in-Some-clause-fault g c = λ f is.
    let same = c.find_manifest.ensures.quiet.same_files in
    let p = err_from_is_err_and c.from_residual-in_err-of_manifest-in-Some.result c.from_residual-in_err-of_manifest-in-Some.ensures.1 in
    rw (p.1, p.2)
    (opening-fault f c.args.limits (g.T.Store.files c.find_manifest.new.store) c.in-Some.list c.in_err-of_manifest-in-Some.field-0.0 (same ∙ is) (there g (goal.at.returns-in_err-of_manifest-in-Some-clause-fault g c).In-Some f is) (c.in_err-of_manifest-in-Some.ensures.fault f (same ∙ is)))

pub returns-in-None-clause-reads : goal.returns-in-None-clause-reads
returns-in-None-clause-reads g c = λ col stands.
    none-there (g.T.Store.files c.args.store.now) stands.list c.in_ok-find_manifest.field-0 stands.has c.in_ok-find_manifest.ensures.there c.in-None.is

pub returns-in-None-clause-backed : goal.returns-in-None-clause-backed
returns-in-None-clause-backed g c = λ col stands.
    none-there (g.T.Store.files c.args.store.now) stands.list c.in_ok-find_manifest.field-0 stands.has c.in_ok-find_manifest.ensures.there c.in-None.is

pub returns-in_ok-of_manifest-in-Some-clause-reads : goal.returns-in_ok-of_manifest-in-Some-clause-reads
returns-in_ok-of_manifest-in-Some-clause-reads g c = λ col stands.
    let told = g.T.Store.files c.args.store.now in
    let same = c.find_manifest.ensures.quiet.same_files in
    reads-opened told c.args.limits c.in_ok-of_manifest-in-Some.field-0 col stands
    (subst (λ (o : Option Files). IsRepositoryOpened o c.args.limits c.in_ok-of_manifest-in-Some.field-0) same (c.in_ok-of_manifest-in-Some.ensures.opened (there g (goal.at.returns-in_ok-of_manifest-in-Some-clause-reads g c).In-Some stands.has.files stands.has.is_told)))

pub returns-in_ok-of_manifest-in-Some-clause-backed : goal.returns-in_ok-of_manifest-in-Some-clause-backed
returns-in_ok-of_manifest-in-Some-clause-backed g c = λ col stands.
    let told = g.T.Store.files c.args.store.now in
    let same = c.find_manifest.ensures.quiet.same_files in
    backed-opened told c.args.limits c.in_ok-of_manifest-in-Some.field-0 col stands
    (subst (λ (o : Option Files). IsRepositoryOpened o c.args.limits c.in_ok-of_manifest-in-Some.field-0) same (c.in_ok-of_manifest-in-Some.ensures.opened (there g (goal.at.returns-in_ok-of_manifest-in-Some-clause-backed g c).In-Some stands.has.files stands.has.is_told)))
