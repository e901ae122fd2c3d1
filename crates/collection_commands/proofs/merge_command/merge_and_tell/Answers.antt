use Rattle.std.proofs.Common.{ap, Err}
use Rattle.repository.specs.Merges.{without_dead}
use Rattle.collection_commands.specs.Merging.{merged_piece}
use Rattle.collection_commands.proofs.CauseLemmas.{undamaged-files}
use Rattle.collection_commands.proofs.StepLemmas.{change-ahead, change-refused, change-told, change-untold, change-unwritten}
use Rattle.collection_commands.proofs.merge_command.merge_and_tell.Goals as goal

-- it is refused

pub returns-in-Err-clause-does : goal.returns-in-Err-clause-does
returns-in-Err-clause-does g c =
    change-refused without_dead merged_piece _ g.T.Store.clock _ _ _ c.args.store.now c.merge_whole.new.store c.merge_whole.ensures.writes (g.met.T.Store.honest c.merge_whole.new.store) (g.met.T.Store.still c.args.store.now)
    c.merge_whole.ensures.goes_on.later c.in-Err.fault _ _ c.of_files.ensures

pub returns-in-Err-clause-honest : goal.returns-in-Err-clause-honest
returns-in-Err-clause-honest g c = λ intact. undamaged-files c.in-Err.fault _ c.of_files.ensures (c.in-Err.ensures.honest intact)

-- it is done, and there is no memory for the reply

pub returns-in_default-clause-does : goal.returns-in_default-clause-does
returns-in_default-clause-does g c = change-unwritten without_dead merged_piece _ g.T.Store.clock _ _ _ c.args.store.now c.merge_whole.new.store c.merge_whole.ensures.writes c.merge_whole.new.repository c.in-Ok.ensures.merged.ended.limits c.in-Ok.ensures.wrote _

-- it is done, and the reply is written

pub returns-in-Ok-write-clause-does : goal.returns-in-Ok-write-clause-does
returns-in-Ok-write-clause-does g c =
    change-told without_dead merged_piece _ g.T.Store.clock _ _ _ c.args.store.now c.merge_whole.new.store c.merge_whole.ensures.writes c.merge_whole.new.repository c.in-Ok.ensures.merged.ended.limits c.in-Ok.ensures.wrote
    _ (c.in-Ok-merged_reply.ensures _) _ _ c.in-Ok-write.ensures.finished

pub returns-in-Ok-write-clause-ahead : goal.returns-in-Ok-write-clause-ahead
returns-in-Ok-write-clause-ahead g c = change-ahead without_dead merged_piece _ g.T.Store.clock _ _ _ c.args.store.now c.merge_whole.new.store c.merge_whole.ensures.writes c.merge_whole.new.repository c.in-Ok.ensures.merged.ended.limits c.in-Ok.ensures.wrote

-- the reply isn't written

pub returns-clause-does : goal.returns-clause-does
returns-clause-does g c =
    let write = c.in-Err-write.ensures in
    change-untold without_dead merged_piece _ g.T.Store.clock _ _ _ c.args.store.now c.merge_whole.new.store c.merge_whole.ensures.writes c.merge_whole.new.repository c.in-Ok.ensures.merged.ended.limits c.in-Ok.ensures.wrote
    _ (c.in-Ok-merged_reply.ensures _) c.in-Err-write.fault _ _ _ c.of_items.ensures (λ e. write.no_read (ap Err e)) (λ e. write.front (ap Err e)) (λ e. write.none (ap Err e))
