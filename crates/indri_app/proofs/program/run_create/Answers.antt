use Rattle.std.proofs.Common.{Err, ap, refl, subst}
use Rattle.command_words.specs.Table.{create}
use Rattle.command_pieces.specs.CommandFaults.{IsCreateFault}
use Rattle.collection_commands.specs.Creation.{create_pieces}
use Rattle.collection_commands.proofs.CauseLemmas.{undamaged-create}
use Rattle.indri_app.proofs.Created.{made-closed}
use Rattle.indri_app.proofs.Ended.{malformed-closed, read-closed, rose-later, store-closed, write-closed}
use Rattle.indri_app.proofs.MakingRuns.{making-create, run-made, run-unmade, untouched-unmade}
use Rattle.indri_app.proofs.program.run_create.Goals as goal

pub returns-in-Ok-clause-has_run : goal.returns-in-Ok-clause-has_run
returns-in-Ok-clause-has_run g c = λ left.
    let did = c.in-Ok.ensures in
    run-made create making-create left _ _ _ _ _ _ _ _ (record { made = λ f told none. (create_pieces, refl, did.finished f told none); along = λ f told none. (create_pieces, refl, c.create_repository.ensures.stops f told none); order = λ f told none all. tt }) (λ f told there. (did.exists f told there).1)

pub returns-in-Err-clause-has_run : goal.returns-in-Err-clause-has_run
returns-in-Err-clause-has_run g c = λ left.
    let did = c.in-Err.ensures in
    let why = c.in-Err.fault in
    let ends = c.close.ensures.closed in
    run-unmade create making-create left _ _ _ _ _ _ _ _ why _ _ _ ends (λ e. subst IsCreateFault e did.only)
    (record {
      made = λ f told none. made-closed create f create_pieces refl _ _ _ _ why _ _ _ _ did.write_later (λ e. subst IsCreateFault e did.only) (undamaged-create why did.only) (did.broken f told none) ends;
      along = λ f told none. (create_pieces, refl, c.create_repository.ensures.stops f told none);
      order = λ f told none all. tt;
    })
    did.write_later (λ f told there. let e = did.exists f told there in (e.0, e.2.same_files, e.2.no_more, e.3)) (λ f told e. did.there f told (ap Err e)) (λ e. (did.same (ap Err e)).1)
    (λ f told d. undamaged-create why did.only d)
    (λ is. absurd (undamaged-create why did.only (malformed-closed why _ _ _ _ _ ends is)))

pub returns-in-Err-clause-untouched : goal.returns-in-Err-clause-untouched
returns-in-Err-clause-untouched g c = λ un.
    untouched-unmade _ c.in-Err.fault _ _ _ _ _ c.close.ensures.closed (λ e. subst IsCreateFault e c.in-Err.ensures.only) (λ e. (c.in-Err.ensures.same (ap Err e)).0) un

pub returns-in-Err-clause-no_read : goal.returns-in-Err-clause-no_read
returns-in-Err-clause-no_read g c = λ is. subst IsCreateFault (read-closed c.in-Err.fault _ _ _ _ _ c.close.ensures.closed is) c.in-Err.ensures.only

pub returns-in-Err-clause-write : goal.returns-in-Err-clause-write
returns-in-Err-clause-write g c = λ is. rose-later _ _ _ (c.in-Err.ensures.write (ap Err (write-closed c.in-Err.fault _ _ _ _ _ c.close.ensures.closed is))) c.close.ensures.later

pub returns-in-Err-clause-store : goal.returns-in-Err-clause-store
returns-in-Err-clause-store g c = λ is. c.in-Err.ensures.store (ap Err (store-closed c.in-Err.fault _ _ _ _ _ c.close.ensures.closed is))
