use Rattle.std.proofs.Common.{◌≡◌, Err, Option, ap, refl, subst, sym, ◌∙◌, arith}
use Rattle.store_ends.specs.Files.{Files}
use Rattle.command_pieces.specs.declared.command_fault.CommandFault.TheVariants as fault
use Rattle.disk_index.specs.QuietLaws.{IsQuiet-then}
use Rattle.repository.specs.States.{IsBacked, IsStateIntact, ReadsAs}
use Rattle.indri_app.specs.Asked.{IsIntactWithPriors}
use Rattle.indri_app.proofs.AskingLemmas.{answer-intact, answer-intact_refused, answer-only, answer-over, broken-store, files-over, opened-over}
use Rattle.indri_app.proofs.Ended.{rose-earlier}
use Rattle.indri_app.proofs.OpeningLemmas.{file-of, file-want, open-of, want-of}
use Rattle.indri_app.proofs.WholeLemmas.{whole-state}
use Rattle.indri_app.proofs.question.ask.Goals as goal

-- it isn't opened

pub returns-in-Err-clause-refused : goal.returns-in-Err-clause-refused
returns-in-Err-clause-refused g c = λ k stands. file-want c.in-Err.fault (c.in-Err.ensures.honest k stands)

pub returns-in-Err-clause-honest : goal.returns-in-Err-clause-honest
returns-in-Err-clause-honest g c = λ k stands whole. c.in-Err.ensures.honest k stands

pub returns-in-Err-clause-there : goal.returns-in-Err-clause-there
returns-in-Err-clause-there g c = λ f told. opened-over f c.in-Err.fault c.in-Err.ensures.only (λ e. c.in-Err.ensures.absent f told (ap Err e)) (λ none. (c.in-Err.ensures.without f told none).1)

pub returns-in-Err-clause-store : goal.returns-in-Err-clause-store
returns-in-Err-clause-store g c = λ e. let one : c.in-Err.fault ≡ fault.Store = cc in c.in-Err.ensures.store (ap Err one)

-- the rows of its priors aren't read

pub returns-in-Err-take_priors-clause-refused : goal.returns-in-Err-take_priors-clause-refused
returns-in-Err-take_priors-clause-refused g c = λ k stands. rw c.of_files.ensures (file-of c.in-Err-take_priors.fault)

pub returns-in-Err-take_priors-clause-honest : goal.returns-in-Err-take_priors-clause-honest
returns-in-Err-take_priors-clause-honest g c = λ k stands whole.
    let backed = subst (λ (f : Option Files). IsBacked f c.in-Ok.repository) (sym c.open_repository.ensures.quiet.same_files) (c.in-Ok.ensures.opened k stands).backed in
    rw c.of_files.ensures (want-of c.in-Err-take_priors.fault (c.in-Err-take_priors.ensures.honest backed))

pub returns-in-Err-take_priors-clause-there : goal.returns-in-Err-take_priors-clause-there
returns-in-Err-take_priors-clause-there g c = λ f told. rw c.of_files.ensures (files-over f c.in-Err-take_priors.fault (c.in-Ok.ensures.there f told))

pub returns-in-Err-take_priors-clause-only : goal.returns-in-Err-take_priors-clause-only
returns-in-Err-take_priors-clause-only g c = rw c.of_files.ensures (open-of c.in-Err-take_priors.fault)

pub returns-in-Err-take_priors-clause-store : goal.returns-in-Err-take_priors-clause-store
returns-in-Err-take_priors-clause-store g c = λ e.
    let one = broken-store _ _ c.in-Err-take_priors.fault c.of_files.ensures refl e in
    rose-earlier _ _ _ c.open_repository.ensures.later (c.in-Err-take_priors.ensures.store (ap Err one))

pub returns-in-Err-take_priors-clause-quiet : goal.returns-in-Err-take_priors-clause-quiet
returns-in-Err-take_priors-clause-quiet g c =
    IsQuiet-then g.T.Store.files g.T.Store.layers g.T.Store.clock g.T.Store.since g.T.Store.longest g.T.Store.held g.T.Store.faults _ _ _ c.open_repository.ensures.quiet c.take_priors.ensures.quiet

-- they are read

pub returns-clause-asked : goal.returns-clause-asked
returns-clause-asked g c = λ k stands.
    let first = c.open_repository.ensures.quiet.same_files in
    let same = c.take_priors.ensures.quiet.same_files ∙ first in
    let ahead = c.in-Ok.ensures.opened k stands in
    let priors = c.in-Ok-take_priors.ensures.priors k (subst (λ (f : Option Files). ReadsAs f c.in-Ok.repository k) (sym first) ahead.reads) in
    c.ask_open.ensures.asked k (subst (λ (f : Option Files). ReadsAs f c.in-Ok.repository k) (sym same) ahead.reads) (subst (λ (f : Option Files). IsBacked f c.in-Ok.repository) (sym same) ahead.backed) priors

pub returns-clause-refused : goal.returns-clause-refused
returns-clause-refused g c = λ k stands.
    let same = c.take_priors.ensures.quiet.same_files ∙ c.open_repository.ensures.quiet.same_files in
    let ahead = c.in-Ok.ensures.opened k stands in
    c.ask_open.ensures.refused k (subst (λ (f : Option Files). ReadsAs f c.in-Ok.repository k) (sym same) ahead.reads) (subst (λ (f : Option Files). IsBacked f c.in-Ok.repository) (sym same) ahead.backed)

pub returns-clause-honest : goal.returns-clause-honest
returns-clause-honest g c = λ k stands whole.
    let same = c.take_priors.ensures.quiet.same_files ∙ c.open_repository.ensures.quiet.same_files in
    let backed = (c.in-Ok.ensures.opened k stands).backed in
    c.ask_open.ensures.honest (subst (λ (f : Option Files). IsStateIntact f c.in-Ok.repository) (sym same) (whole-state _ c.in-Ok.repository whole backed))

pub returns-clause-there : goal.returns-clause-there
returns-clause-there g c = λ f told. answer-over f c.ask_open.result c.ask_open.ensures.only (c.in-Ok.ensures.there f told)

pub returns-clause-manifest : goal.returns-clause-manifest
returns-clause-manifest g c = λ f told none. absurd (c.in-Ok.ensures.without f told none).0

pub returns-clause-intact : goal.returns-clause-intact
returns-clause-intact g c = λ f told.
    let same = c.open_repository.ensures.quiet.same_files in
    let listed = rw same at (c.in-Ok-take_priors.ensures.listed f (same ∙ told)) in
    let intact : IsIntactWithPriors (g.T.Store.files c.args.store.now) = (c.in-Ok.repository.held.limits, (c.in-Ok.repository, c.in-Ok.ensures.read f told, (listed.0, listed.1))) in
    answer-intact (IsIntactWithPriors (g.T.Store.files c.args.store.now)) c.ask_open.result intact

pub returns-clause-intact_refused : goal.returns-clause-intact_refused
returns-clause-intact_refused g c = λ f told.
    let same = c.open_repository.ensures.quiet.same_files in
    let listed = rw same at (c.in-Ok-take_priors.ensures.listed f (same ∙ told)) in
    let intact : IsIntactWithPriors (g.T.Store.files c.args.store.now) = (c.in-Ok.repository.held.limits, (c.in-Ok.repository, c.in-Ok.ensures.read f told, (listed.0, listed.1))) in
    answer-intact_refused (IsIntactWithPriors (g.T.Store.files c.args.store.now)) c.ask_open.result intact

pub returns-clause-only : goal.returns-clause-only
returns-clause-only g c = answer-only c.ask_open.result c.ask_open.ensures.only

pub returns-clause-quiet : goal.returns-clause-quiet
returns-clause-quiet g c =
    IsQuiet-then g.T.Store.files g.T.Store.layers g.T.Store.clock g.T.Store.since g.T.Store.longest g.T.Store.held g.T.Store.faults _ _ _
    (IsQuiet-then g.T.Store.files g.T.Store.layers g.T.Store.clock g.T.Store.since g.T.Store.longest g.T.Store.held g.T.Store.faults _ _ _ c.open_repository.ensures.quiet c.take_priors.ensures.quiet) c.ask_open.ensures.quiet

pub returns-clause-later : goal.returns-clause-later
returns-clause-later g c = omega (arith, c.open_repository.ensures.later, c.take_priors.ensures.later, c.ask_open.ensures.later)

pub returns-clause-store : goal.returns-clause-store
returns-clause-store g c = λ e. rose-earlier _ _ _ (omega (arith, c.open_repository.ensures.later, c.take_priors.ensures.later)) (c.ask_open.ensures.store e)
