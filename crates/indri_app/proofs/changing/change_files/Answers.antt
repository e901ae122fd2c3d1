use Rattle.std.proofs.Common.{◌≡◌, refl, sym, subst}
use Rattle.disk_index.specs.QuietLaws.{IsQuiet-then}
use Rattle.command_pieces.specs.declared.command_fault.CommandFault.TheVariants as fault
use Rattle.repository.specs.RealLimits.{StandsFor}
use Rattle.repository.specs.States.{IsStateIntact}
use Rattle.collection_commands.specs.Ahead.{IsAhead}
use Rattle.indri_app.specs.Opened.{IsOpenFault}
use Rattle.indri_app.specs.Changes.{told_change}
use Rattle.desk.proofs.EventExits.{quiet-on}
use Rattle.indri_app.proofs.Beginning.{behind-on}
use Rattle.indri_app.proofs.ChangingLemmas.{on-any, open-over, session-first, session-not_absent, session-over, undamaged-late, want-late}
use Rattle.indri_app.proofs.Closing.{stops-behind, stops-none, want-begun-some}
use Rattle.indri_app.proofs.Ended.{rose-earlier}
use Rattle.indri_app.proofs.WholeLemmas.{whole-state}
use Rattle.indri_app.proofs.changing.change_files.Goals as goal

-- the repository is open

pub returns-in-Ok-clause-done : goal.returns-in-Ok-clause-done
returns-in-Ok-clause-done g c = λ k stands.
    let same = c.open_repository.ensures.quiet.same_files in
    rw same at (c.change_repository.ensures.done k (subst (λ f. IsAhead f c.in-Ok.repository k k) (sym same) (c.in-Ok.ensures.opened k stands)))

pub returns-in-Ok-clause-broken : goal.returns-in-Ok-clause-broken
returns-in-Ok-clause-broken g c = λ k stands.
    let same = c.open_repository.ensures.quiet.same_files in
    rw same at (c.change_repository.ensures.broken k (subst (λ f. IsAhead f c.in-Ok.repository k k) (sym same) (c.in-Ok.ensures.opened k stands)))

pub returns-in-Ok-clause-stops : goal.returns-in-Ok-clause-stops
returns-in-Ok-clause-stops g c = λ k stands.
    let same = c.open_repository.ensures.quiet.same_files in
    stops-behind (g.T.Store.files c.args.store.now) (told_change c.args.what) k _ _ _ _ c.open_repository.ensures.quiet.no_more
    (rw same at (c.change_repository.ensures.stops k (subst (λ f. IsAhead f c.in-Ok.repository k k) (sym same) (c.in-Ok.ensures.opened k stands))))

pub returns-in-Ok-clause-honest : goal.returns-in-Ok-clause-honest
returns-in-Ok-clause-honest g c = λ k stands whole.
    let same = c.open_repository.ensures.quiet.same_files in
    let work = c.change_repository.ensures in
    let backed = (c.in-Ok.ensures.opened k stands).backed in
    undamaged-late c.change_repository.result work.only (work.honest (λ reads. subst (λ f. IsStateIntact f c.in-Ok.repository) (sym same) (whole-state _ c.in-Ok.repository (whole reads) backed)))

pub returns-in-Ok-clause-first : goal.returns-in-Ok-clause-first
returns-in-Ok-clause-first g c =
    let work = c.change_repository.ensures in
    let quiet = IsQuiet-then g.T.Store.files g.T.Store.layers g.T.Store.clock g.T.Store.since g.T.Store.longest g.T.Store.held g.T.Store.faults _ _ _ c.open_repository.ensures.quiet in
    session-first _ _ c.change_repository.result (λ same. (quiet same.0, same.1, same.2)) work.only work.damage

pub returns-in-Ok-clause-absent : goal.returns-in-Ok-clause-absent
returns-in-Ok-clause-absent g c = λ f told e. absurd (session-not_absent c.change_repository.result c.change_repository.ensures.only e)

pub returns-in-Ok-clause-without : goal.returns-in-Ok-clause-without
returns-in-Ok-clause-without g c = λ f told none. absurd (c.in-Ok.ensures.without f told none).0

pub returns-in-Ok-clause-intact : goal.returns-in-Ok-clause-intact
returns-in-Ok-clause-intact g c = λ f told. on-any _ c.change_repository.result (c.in-Ok.repository.held.limits, (c.in-Ok.repository, c.in-Ok.ensures.read f told))

pub returns-in-Ok-clause-only : goal.returns-in-Ok-clause-only
returns-in-Ok-clause-only g c = session-over c.change_repository.result c.change_repository.ensures.only

pub returns-in-Ok-clause-goes_on : goal.returns-in-Ok-clause-goes_on
returns-in-Ok-clause-goes_on g c = behind-on _ _ _ _ _ _ _ _ _ c.open_repository.ensures.quiet c.change_repository.ensures.goes_on

pub returns-in-Ok-clause-store : goal.returns-in-Ok-clause-store
returns-in-Ok-clause-store g c = λ e. rose-earlier _ _ _ c.open_repository.ensures.later (c.change_repository.ensures.store e)

-- it isn't opened

pub returns-in-Err-clause-broken : goal.returns-in-Err-clause-broken
returns-in-Err-clause-broken g c = λ k stands.
    let same = c.open_repository.ensures.quiet.same_files in
    want-begun-some c.in-Err.fault _ (told_change c.args.what) k _ _ _ _ (c.in-Err.ensures.honest k stands) refl (subst (λ f. StandsFor k f) (sym same) stands)

pub returns-in-Err-clause-stops : goal.returns-in-Err-clause-stops
returns-in-Err-clause-stops g c = λ k stands. stops-none _ (told_change c.args.what) k _ _ _ c.open_repository.ensures.quiet.no_more

pub returns-in-Err-clause-honest : goal.returns-in-Err-clause-honest
returns-in-Err-clause-honest g c = λ k stands whole. want-late c.in-Err.fault (c.in-Err.ensures.honest k stands)

pub returns-in-Err-clause-first : goal.returns-in-Err-clause-first
returns-in-Err-clause-first g c = λ first. (c.open_repository.ensures.quiet, refl, refl)

pub returns-in-Err-clause-without : goal.returns-in-Err-clause-without
returns-in-Err-clause-without g c = λ f told none. (tt, (c.in-Err.ensures.without f told none).1)

pub returns-in-Err-clause-only : goal.returns-in-Err-clause-only
returns-in-Err-clause-only g c = open-over c.in-Err.fault c.in-Err.ensures.only

pub returns-in-Err-clause-goes_on : goal.returns-in-Err-clause-goes_on
returns-in-Err-clause-goes_on g c = quiet-on _ _ _ _ _ _ _ _ c.open_repository.ensures.quiet

pub returns-in-Err-clause-read : goal.returns-in-Err-clause-read
returns-in-Err-clause-read g c = λ e. let one : c.in-Err.fault ≡ fault.Read = cc in absurd (subst IsOpenFault one c.in-Err.ensures.only)

pub returns-in-Err-clause-write : goal.returns-in-Err-clause-write
returns-in-Err-clause-write g c = λ e. let one : c.in-Err.fault ≡ fault.Write = cc in absurd (subst IsOpenFault one c.in-Err.ensures.only)
