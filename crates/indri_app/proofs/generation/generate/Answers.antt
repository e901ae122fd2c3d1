use Rattle.std.proofs.Common.{ap, Err, refl, subst}
use Rattle.command_pieces.specs.CommandFaults.{IsDamage}
use Rattle.indri_app.proofs.Generating.{either-undamaged, gen-broken, gen-finished, gen-of_items, gen-of_silent, items-not_exists, items-not_store, made-broken, silent-not_write, write-of_items}
use Rattle.indri_app.proofs.Standing.{items-undamaged}
use Rattle.indri_app.proofs.generation.generate.Goals as goal

-- it isn't made

pub returns-in-Err-clause-broken : goal.returns-in-Err-clause-broken
returns-in-Err-clause-broken g c = λ f told none. made-broken c.in-Err.fault _ f _ _ (c.in-Err.ensures.honest f told none) (c.made_text.ensures.along f told none)

pub returns-in-Err-clause-honest : goal.returns-in-Err-clause-honest
returns-in-Err-clause-honest g c = λ f told. either-undamaged (f _).read c.in-Err.fault (c.in-Err.ensures.honest f told) (λ there. (c.in-Err.ensures.exists f told there).0)

pub returns-in-Err-clause-only : goal.returns-in-Err-clause-only
returns-in-Err-clause-only g c = gen-of_silent c.in-Err.fault c.in-Err.ensures.only

pub returns-in-Err-clause-write : goal.returns-in-Err-clause-write
returns-in-Err-clause-write g c = λ is. absurd (silent-not_write c.in-Err.fault c.in-Err.ensures.only cc)

-- the text is written

pub returns-in-Ok-write-clause-finished : goal.returns-in-Ok-write-clause-finished
returns-in-Ok-write-clause-finished g c = λ f told none. gen-finished _ f _ _ (c.in-Ok.ensures.made f told none) c.told.result _ _ c.told.ensures c.in-Ok-write.ensures.finished

pub returns-in-Ok-write-clause-order : goal.returns-in-Ok-write-clause-order
returns-in-Ok-write-clause-order g c = λ f told none. let made = c.in-Ok.ensures.made f told none in (made.limits, made.real, made.order)

pub returns-in-Ok-write-clause-exists : goal.returns-in-Ok-write-clause-exists
returns-in-Ok-write-clause-exists g c = λ f told there. let no = c.in-Ok.ensures.exists f told there in absurd no.1

-- it isn't

pub returns-clause-broken : goal.returns-clause-broken
returns-clause-broken g c = λ f told none.
    let write = c.in-Err-write.ensures in
    gen-broken _ f _ _ (c.in-Ok.ensures.made f told none) c.in-Err-write.fault _ c.told.result _ _ c.of_items.ensures c.told.ensures write.broken (λ e. write.no_read (ap Err e)) (λ e. write.none (ap Err e))

pub returns-clause-honest : goal.returns-clause-honest
returns-clause-honest g c = λ f told. λ d. items-undamaged c.in-Err-write.fault (subst IsDamage c.of_items.ensures d)

pub returns-clause-exists : goal.returns-clause-exists
returns-clause-exists g c = λ f told there. let no = c.in-Ok.ensures.exists f told there in absurd no.1

pub returns-clause-only : goal.returns-clause-only
returns-clause-only g c = rw c.of_items.ensures (gen-of_items c.in-Err-write.fault (λ e. c.in-Err-write.ensures.no_read (ap Err e)))

pub returns-clause-damage : goal.returns-clause-damage
returns-clause-damage g c = λ d. absurd (items-undamaged c.in-Err-write.fault (subst IsDamage c.of_items.ensures d))

pub returns-clause-there : goal.returns-clause-there
returns-clause-there g c = λ f told is. absurd (items-not_exists c.in-Err-write.fault cc)

pub returns-clause-same : goal.returns-clause-same
returns-clause-same g c = λ is. absurd (items-not_exists c.in-Err-write.fault cc)

pub returns-clause-store : goal.returns-clause-store
returns-clause-store g c = λ is. absurd (items-not_store c.in-Err-write.fault cc)

pub returns-clause-write : goal.returns-clause-write
returns-clause-write g c = λ is. let one = write-of_items c.in-Err-write.fault cc in c.in-Err-write.ensures.cause (rw one refl)
