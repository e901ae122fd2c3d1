use Rattle.std.proofs.Common.{ap, sym, Err, ◌∙◌}
use Rattle.collection_commands.proofs.CreateLemmas.{create-refused, create-stops, create-told, create-unwritten, create-untold, found-there}
use Rattle.collection_commands.proofs.create_command.create_repository.Goals as goal

-- there is one already

pub returns-in-Ok-false-clause-broken : goal.returns-in-Ok-false-clause-broken
returns-in-Ok-false-clause-broken g c = λ f told none. found-there f none (sym c.in-Ok-false.field-0-test ∙ c.in-Ok-false.ensures.found f told)

-- it can't be made

pub returns-in-Err-clause-broken : goal.returns-in-Err-clause-broken
returns-in-Err-clause-broken g c = λ f told none. create-refused f c.in-Err.fault _ _ _ _ c.of_files.ensures told c.create.ensures.changed

pub returns-in-Err-clause-stops : goal.returns-in-Err-clause-stops
returns-in-Err-clause-stops g c = λ f told none. create-stops f _ _ _ told c.create.ensures.stops

-- it is made, and there is no memory for the reply

pub returns-in_default-clause-broken : goal.returns-in_default-clause-broken
returns-in_default-clause-broken g c = λ f told none. create-unwritten f _ _ _ told c.create.ensures.changed

pub returns-in_default-clause-stops : goal.returns-in_default-clause-stops
returns-in_default-clause-stops g c = λ f told none. create-stops f _ _ _ told c.create.ensures.stops

-- the reply is written

pub returns-in-Ok-write-clause-finished : goal.returns-in-Ok-write-clause-finished
returns-in-Ok-write-clause-finished g c = λ f told none. create-told f _ _ _ _ _ c.in-Ok.ensures c.in-Ok-write.ensures.finished told (c.in-Ok-true.ensures.made c.in-Ok-true.field-0-test)

pub returns-in-Ok-write-clause-stops : goal.returns-in-Ok-write-clause-stops
returns-in-Ok-write-clause-stops g c = λ f told none. create-stops f _ _ _ told c.create.ensures.stops

-- it isn't

pub returns-clause-broken : goal.returns-clause-broken
returns-clause-broken g c = λ f told none.
    let write = c.in-Err-write.ensures in
    create-untold f c.in-Err-write.fault _ _ _ _ _ _ c.of_items.ensures c.in-Ok.ensures told (c.in-Ok-true.ensures.made c.in-Ok-true.field-0-test) (λ e. write.no_read (ap Err e)) (λ e. write.front (ap Err e)) (λ e. write.none (ap Err e))

pub returns-clause-stops : goal.returns-clause-stops
returns-clause-stops g c = λ f told none. create-stops f _ _ _ told c.create.ensures.stops
