use Rattle.std.proofs.Common.{sym, ◌∙◌}
use Rattle.indri_app.proofs.NewRepository.{along-step, along-stops, exists-of, found-there, there-found}
use Rattle.indri_app.proofs.OpeningLemmas.{want-of}
use Rattle.indri_app.proofs.creation.make_files.Goals as goal

-- it is made

pub returns-in-Ok-true-clause-made : goal.returns-in-Ok-true-clause-made
returns-in-Ok-true-clause-made g c = λ f told none. λ limits real. c.in-Ok-true.ensures.stands f limits told c.in-Ok-true.field-0-test

pub returns-in-Ok-true-clause-along : goal.returns-in-Ok-true-clause-along
returns-in-Ok-true-clause-along g c = λ f told none. along-step f _ told _ c.create.ensures.changed

pub returns-in-Ok-true-clause-stops : goal.returns-in-Ok-true-clause-stops
returns-in-Ok-true-clause-stops g c = λ f told none. along-stops f _ told _ _ c.create.ensures.stops

-- there is one already

pub returns-in-Ok-false-clause-along : goal.returns-in-Ok-false-clause-along
returns-in-Ok-false-clause-along g c = λ f told none. along-step f _ told _ c.create.ensures.changed

pub returns-in-Ok-false-clause-stops : goal.returns-in-Ok-false-clause-stops
returns-in-Ok-false-clause-stops g c = λ f told none. along-stops f _ told _ _ c.create.ensures.stops

pub returns-in-Ok-false-clause-honest : goal.returns-in-Ok-false-clause-honest
returns-in-Ok-false-clause-honest g c = λ f told none. found-there (f _).read none (sym c.in-Ok-false.field-0-test ∙ c.in-Ok-false.ensures.found f told)

pub returns-in-Ok-false-clause-there : goal.returns-in-Ok-false-clause-there
returns-in-Ok-false-clause-there g c = λ f told is. there-found (f _).read (sym c.in-Ok-false.field-0-test ∙ c.in-Ok-false.ensures.found f told)

-- it can't be made

pub returns-in-Err-clause-along : goal.returns-in-Err-clause-along
returns-in-Err-clause-along g c = λ f told none. along-step f _ told _ c.create.ensures.changed

pub returns-in-Err-clause-stops : goal.returns-in-Err-clause-stops
returns-in-Err-clause-stops g c = λ f told none. along-stops f _ told _ _ c.create.ensures.stops

pub returns-in-Err-clause-honest : goal.returns-in-Err-clause-honest
returns-in-Err-clause-honest g c = λ f told none. rw c.of_files.ensures (want-of c.in-Err.fault c.in-Err.ensures.outside)

pub returns-in-Err-clause-only : goal.returns-in-Err-clause-only
returns-in-Err-clause-only g c = rw c.of_files.ensures (exists-of c.in-Err.fault c.in-Err.ensures.outside)
