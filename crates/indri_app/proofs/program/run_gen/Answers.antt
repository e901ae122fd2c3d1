use Rattle.std.proofs.Common.{Err, ap, subst}
use Rattle.command_words.specs.Table.{gen}
use Rattle.indri_app.specs.Faults.{IsGenFault}
use Rattle.indri_app.proofs.Created.{made-closed}
use Rattle.indri_app.proofs.Ended.{all-not_closed, damage-closed, damage-first, malformed-closed, read-closed, rose-later, store-closed, write-closed}
use Rattle.indri_app.proofs.MakingRuns.{making-gen, run-made, run-unmade, untouched-unmade}
use Rattle.indri_app.proofs.program.run_gen.Goals as goal

-- it is done

pub returns-in-Ok-clause-has_run : goal.returns-in-Ok-clause-has_run
returns-in-Ok-clause-has_run g c = λ left.
    let did = c.in-Ok.ensures in
    run-made (gen c.args.count) (making-gen c.args.count) left _ _ _ _ _ _ _ _ (record { made = did.finished; along = c.generate.ensures.stops; order = λ f told none all. did.order f told none }) (λ f told there. (did.exists f told there).1)

-- it is broken off

pub returns-in-Err-clause-has_run : goal.returns-in-Err-clause-has_run
returns-in-Err-clause-has_run g c = λ left.
    let did = c.in-Err.ensures in
    let why = c.in-Err.fault in
    let ends = c.close.ensures.closed in
    run-unmade (gen c.args.count) (making-gen c.args.count) left _ _ _ _ _ _ _ _ why _ _ _ ends (λ e. subst IsGenFault e did.only)
    (record {
      made = λ f told none. let broken = did.broken f told none in made-closed (gen c.args.count) f broken.0 broken.1 _ _ _ _ why _ _ _ _ did.write_later (λ e. subst IsGenFault e did.only) (did.honest f told) broken.2 ends;
      along = c.generate.ensures.stops;
      order = λ f told none all. absurd (all-not_closed why _ _ _ _ _ ends all);
    })
    did.write_later (λ f told there. let e = did.exists f told there in (e.0, e.2.same_files, e.2.no_more, e.3)) (λ f told e. did.there f told (ap Err e)) (λ e. (did.same (ap Err e)).1)
    did.honest
    (λ is. damage-first _ _ _ _ _ _ (did.damage (malformed-closed why _ _ _ _ _ ends is)) did.write_later (damage-closed why _ _ _ _ _ ends is))

pub returns-in-Err-clause-untouched : goal.returns-in-Err-clause-untouched
returns-in-Err-clause-untouched g c = λ un.
    untouched-unmade _ c.in-Err.fault _ _ _ _ _ c.close.ensures.closed (λ e. subst IsGenFault e c.in-Err.ensures.only) (λ e. (c.in-Err.ensures.same (ap Err e)).0) un

pub returns-in-Err-clause-no_read : goal.returns-in-Err-clause-no_read
returns-in-Err-clause-no_read g c = λ is. subst IsGenFault (read-closed c.in-Err.fault _ _ _ _ _ c.close.ensures.closed is) c.in-Err.ensures.only

pub returns-in-Err-clause-write : goal.returns-in-Err-clause-write
returns-in-Err-clause-write g c = λ is. rose-later _ _ _ (c.in-Err.ensures.write (ap Err (write-closed c.in-Err.fault _ _ _ _ _ c.close.ensures.closed is))) c.close.ensures.later

pub returns-in-Err-clause-store : goal.returns-in-Err-clause-store
returns-in-Err-clause-store g c = λ is. c.in-Err.ensures.store (ap Err (store-closed c.in-Err.fault _ _ _ _ _ c.close.ensures.closed is))
