use Rattle.indri_app.proofs.ending.finish_items.Goals as goal

pub returns-in-Ok-clause-ended : goal.returns-in-Ok-clause-ended
returns-in-Ok-clause-ended g c = rw c.in-Ok.is c.finish.ensures.ended

pub returns-in-Err-clause-ended : goal.returns-in-Err-clause-ended
returns-in-Err-clause-ended g c = rw c.in-Err.is (rw c.of_items.ensures at c.finish-in-Err.ensures.ended)
