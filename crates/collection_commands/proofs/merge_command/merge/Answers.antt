use Rattle.repository.specs.Merges.{without_dead}
use Rattle.collection_commands.specs.Merging.{merged_piece}
use Rattle.collection_commands.proofs.CauseLemmas.{undamaged-swept}
use Rattle.collection_commands.proofs.StepLemmas.{sweep-broken, sweep-done}
use Rattle.collection_commands.proofs.merge_command.merge.Goals as goal

-- Behind `merge_and_tell` the repository is ahead of nothing, so the sweep leaves what the files stand for.

pub returns-in-Ok-sweep-clause-finished : goal.returns-in-Ok-sweep-clause-finished
returns-in-Ok-sweep-clause-finished g c =
    λ k ahead. (sweep-done without_dead merged_piece _ _ _ _ _ _ _ _ _ _ c.in-Ok.ensures.does c.merge_and_tell.new.repository c.in-Ok.ensures.ahead c.sweep.ensures.stands c.sweep.ensures.stops).finished k k ahead

pub returns-in-Ok-sweep-clause-stops : goal.returns-in-Ok-sweep-clause-stops
returns-in-Ok-sweep-clause-stops g c =
    λ k ahead. (sweep-done without_dead merged_piece _ _ _ _ _ _ _ _ _ _ c.in-Ok.ensures.does c.merge_and_tell.new.repository c.in-Ok.ensures.ahead c.sweep.ensures.stands c.sweep.ensures.stops).stops k k ahead

pub returns-in-Err-sweep-clause-broken : goal.returns-in-Err-sweep-clause-broken
returns-in-Err-sweep-clause-broken g c =
    λ k ahead. (sweep-broken without_dead merged_piece _ _ _ _ _ _ _ _ _ _ c.in-Ok.ensures.does c.merge_and_tell.new.repository c.in-Ok.ensures.ahead c.sweep.ensures.stands c.sweep.ensures.stops c.in-Err-sweep.fault c.in-Err-sweep.ensures.only).broken k k ahead

pub returns-in-Err-sweep-clause-honest : goal.returns-in-Err-sweep-clause-honest
returns-in-Err-sweep-clause-honest g c = λ intact. undamaged-swept c.in-Err-sweep.fault c.in-Err-sweep.ensures.only

pub returns-in-Err-sweep-clause-stops : goal.returns-in-Err-sweep-clause-stops
returns-in-Err-sweep-clause-stops g c =
    λ k ahead. (sweep-broken without_dead merged_piece _ _ _ _ _ _ _ _ _ _ c.in-Ok.ensures.does c.merge_and_tell.new.repository c.in-Ok.ensures.ahead c.sweep.ensures.stands c.sweep.ensures.stops c.in-Err-sweep.fault c.in-Err-sweep.ensures.only).stops k k ahead
