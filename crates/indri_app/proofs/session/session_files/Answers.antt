use Rattle.std.proofs.Common.{◌≡◌, refl, sym, subst}
use Rattle.command_words.specs.Table as asks
use Rattle.command_pieces.specs.declared.command_fault.CommandFault.TheVariants as fault
use Rattle.repository.specs.RealLimits.{StandsFor}
use Rattle.repository.specs.States.{IsStateIntact}
use Rattle.smoothing.specs.declared.rule.RuleKind.TheVariants.{Dirichlet}
use Rattle.collection_commands.specs.Ahead.{IsAhead}
use Rattle.indri_app.specs.Sessions.{session_pieces}
use Rattle.indri_app.specs.Opened.{IsOpenFault}
use Rattle.desk.proofs.EventExits.{quiet-on}
use Rattle.indri_app.proofs.Beginning.{behind-on}
use Rattle.indri_app.proofs.ChangingLemmas.{open-over, session-not_absent, session-over, undamaged-late, want-late}
use Rattle.indri_app.proofs.Closing.{begun-by, done-by, stops-behind, stops-by, stops-none, want-begun-some}
use Rattle.indri_app.proofs.Ended.{rose-earlier}
use Rattle.indri_app.proofs.SessionLemmas.{in-order, with-priors}
use Rattle.indri_app.proofs.WholeLemmas.{whole-state}
use Rattle.indri_app.proofs.session.session_files.Goals as goal

-- the repository is open

pub returns-in-Ok-clause-done : goal.returns-in-Ok-clause-done
returns-in-Ok-clause-done g c = λ k stands.
    let told = g.T.Store.files c.args.store.now in
    let same = c.open_repository.ensures.quiet.same_files in
    let limits = c.in-Ok.repository.held.limits in
    let here = c.in-Ok.ensures.opened k stands in
    let ahead = subst (λ f. IsAhead f c.in-Ok.repository k k) (sym same) here in
    done-by told (asks.session c.args.mu) k (λ bytes. session_pieces limits (Dirichlet c.args.mu) k bytes) _ _ _ _ c.session.result (λ bytes. (limits, here.real, refl)) (c.session.ensures.refused k ahead) (c.session.ensures.finished k ahead)

pub returns-in-Ok-clause-broken : goal.returns-in-Ok-clause-broken
returns-in-Ok-clause-broken g c = λ k stands.
    let told = g.T.Store.files c.args.store.now in
    let same = c.open_repository.ensures.quiet.same_files in
    let limits = c.in-Ok.repository.held.limits in
    let here = c.in-Ok.ensures.opened k stands in
    let ahead = subst (λ f. IsAhead f c.in-Ok.repository k k) (sym same) here in
    begun-by told (asks.session c.args.mu) k (λ bytes. session_pieces limits (Dirichlet c.args.mu) k bytes) _ _ _ _ c.session.result (λ bytes. (limits, here.real, refl)) (c.session.ensures.broken k ahead)

pub returns-in-Ok-clause-stops : goal.returns-in-Ok-clause-stops
returns-in-Ok-clause-stops g c = λ k stands.
    let told = g.T.Store.files c.args.store.now in
    let same = c.open_repository.ensures.quiet.same_files in
    let limits = c.in-Ok.repository.held.limits in
    let here = c.in-Ok.ensures.opened k stands in
    let ahead = subst (λ f. IsAhead f c.in-Ok.repository k k) (sym same) here in
    stops-behind told (asks.session c.args.mu) k _ _ _ _ c.open_repository.ensures.quiet.no_more
    (stops-by told (asks.session c.args.mu) k (λ bytes. session_pieces limits (Dirichlet c.args.mu) k bytes) _ _ _ (λ bytes. (limits, here.real, refl)) (c.session.ensures.stops k ahead))

pub returns-in-Ok-clause-order : goal.returns-in-Ok-clause-order
returns-in-Ok-clause-order g c = λ k stands.
    let same = c.open_repository.ensures.quiet.same_files in
    let here = c.in-Ok.ensures.opened k stands in
    let ahead = subst (λ f. IsAhead f c.in-Ok.repository k k) (sym same) here in
    in-order c.args.mu k c.in-Ok.repository.held.limits _ c.session.result here.real (c.session.ensures.order k ahead)

pub returns-in-Ok-clause-honest : goal.returns-in-Ok-clause-honest
returns-in-Ok-clause-honest g c = λ k stands whole.
    let same = c.open_repository.ensures.quiet.same_files in
    let here = c.in-Ok.ensures.opened k stands in
    let ahead = subst (λ f. IsAhead f c.in-Ok.repository k k) (sym same) here in
    let intact = subst (λ f. IsStateIntact f c.in-Ok.repository) (sym same) (whole-state _ c.in-Ok.repository whole here.backed) in
    undamaged-late c.session.result c.session.ensures.only (c.session.ensures.honest k ahead intact)

pub returns-in-Ok-clause-untouched : goal.returns-in-Ok-clause-untouched
returns-in-Ok-clause-untouched g c = λ e. absurd (session-not_absent c.session.result c.session.ensures.only e)

pub returns-in-Ok-clause-absent : goal.returns-in-Ok-clause-absent
returns-in-Ok-clause-absent g c = λ f told e. absurd (session-not_absent c.session.result c.session.ensures.only e)

pub returns-in-Ok-clause-without : goal.returns-in-Ok-clause-without
returns-in-Ok-clause-without g c = λ f told none. absurd (c.in-Ok.ensures.without f told none).0

pub returns-in-Ok-clause-intact : goal.returns-in-Ok-clause-intact
returns-in-Ok-clause-intact g c = λ f told.
    let same = c.open_repository.ensures.quiet.same_files in
    with-priors (g.T.Store.files c.args.store.now) c.in-Ok.repository c.session.result (c.in-Ok.ensures.read f told) (rw same at (c.session.ensures.listed f (rw same told)))

pub returns-in-Ok-clause-only : goal.returns-in-Ok-clause-only
returns-in-Ok-clause-only g c = session-over c.session.result c.session.ensures.only

pub returns-in-Ok-clause-goes_on : goal.returns-in-Ok-clause-goes_on
returns-in-Ok-clause-goes_on g c = behind-on _ _ _ _ _ _ _ _ _ c.open_repository.ensures.quiet c.session.ensures.goes_on

pub returns-in-Ok-clause-store : goal.returns-in-Ok-clause-store
returns-in-Ok-clause-store g c = λ e. rose-earlier _ _ _ c.open_repository.ensures.later (c.session.ensures.store e)

-- it isn't opened

pub returns-in-Err-clause-broken : goal.returns-in-Err-clause-broken
returns-in-Err-clause-broken g c = λ k stands.
    let same = c.open_repository.ensures.quiet.same_files in
    want-begun-some c.in-Err.fault _ (asks.session c.args.mu) k _ _ _ _ (c.in-Err.ensures.honest k stands) refl (subst (λ f. StandsFor k f) (sym same) stands)

pub returns-in-Err-clause-stops : goal.returns-in-Err-clause-stops
returns-in-Err-clause-stops g c = λ k stands. stops-none (g.T.Store.files c.args.store.now) (asks.session c.args.mu) k _ _ _ c.open_repository.ensures.quiet.no_more

pub returns-in-Err-clause-honest : goal.returns-in-Err-clause-honest
returns-in-Err-clause-honest g c = λ k stands whole. want-late c.in-Err.fault (c.in-Err.ensures.honest k stands)

pub returns-in-Err-clause-untouched : goal.returns-in-Err-clause-untouched
returns-in-Err-clause-untouched g c = λ e. (c.open_repository.ensures.quiet, refl, refl)

pub returns-in-Err-clause-without : goal.returns-in-Err-clause-without
returns-in-Err-clause-without g c = λ f told none. (tt, (c.in-Err.ensures.without f told none).1)

pub returns-in-Err-clause-only : goal.returns-in-Err-clause-only
returns-in-Err-clause-only g c = open-over c.in-Err.fault c.in-Err.ensures.only

pub returns-in-Err-clause-goes_on : goal.returns-in-Err-clause-goes_on
returns-in-Err-clause-goes_on g c = quiet-on _ _ _ _ _ _ _ _ c.open_repository.ensures.quiet

pub returns-in-Err-clause-read : goal.returns-in-Err-clause-read
returns-in-Err-clause-read g c = λ e. let one : c.in-Err.fault ≡ fault.Read = cc in absurd (subst IsOpenFault one c.in-Err.ensures.only)

pub returns-in-Err-clause-write : goal.returns-in-Err-clause-write
returns-in-Err-clause-write g c = λ e. let one : c.in-Err.fault ≡ fault.Write = cc in absurd (subst IsOpenFault one c.in-Err.ensures.only)
