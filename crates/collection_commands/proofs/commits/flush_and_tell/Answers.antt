use Rattle.std.proofs.Common.{ap, Err}
use Rattle.collection_commands.specs.Flushing.{flushed_piece}
use Rattle.collection_commands.proofs.StepLemmas.{change-ahead, change-refused, change-told, change-untold, change-unwritten}
use Rattle.collection_commands.proofs.commits.flush_and_tell.Goals as goal

-- it is refused

pub returns-in-Err-clause-does : goal.returns-in-Err-clause-does
returns-in-Err-clause-does g c =
    change-refused (λ d. d) flushed_piece _ g.T.Store.clock _ _ _ c.args.store.now c.flush.new.store c.flush.ensures.writes (g.met.T.Store.honest c.flush.new.store) (g.met.T.Store.still c.args.store.now)
    c.flush.ensures.goes_on.later c.in-Err.fault _ _ c.of_files.ensures

-- it is done, and there is no memory for the reply

pub returns-in_default-clause-does : goal.returns-in_default-clause-does
returns-in_default-clause-does g c = change-unwritten (λ d. d) flushed_piece _ g.T.Store.clock _ _ _ c.args.store.now c.flush.new.store c.flush.ensures.writes c.flush.new.self c.in-Ok.ensures.saved.limits c.in-Ok.ensures.wrote _

-- it is done, and the reply is written

pub returns-in-Ok-write-clause-does : goal.returns-in-Ok-write-clause-does
returns-in-Ok-write-clause-does g c =
    change-told (λ d. d) flushed_piece _ g.T.Store.clock _ _ _ c.args.store.now c.flush.new.store c.flush.ensures.writes c.flush.new.self c.in-Ok.ensures.saved.limits c.in-Ok.ensures.wrote
    _ (c.in-Ok-flushed_reply.ensures _) _ _ c.in-Ok-write.ensures.finished

pub returns-in-Ok-write-clause-ahead : goal.returns-in-Ok-write-clause-ahead
returns-in-Ok-write-clause-ahead g c = change-ahead (λ d. d) flushed_piece _ g.T.Store.clock _ _ _ c.args.store.now c.flush.new.store c.flush.ensures.writes c.flush.new.self c.in-Ok.ensures.saved.limits c.in-Ok.ensures.wrote

-- the reply isn't written

pub returns-clause-does : goal.returns-clause-does
returns-clause-does g c =
    let write = c.in-Err-write.ensures in
    change-untold (λ d. d) flushed_piece _ g.T.Store.clock _ _ _ c.args.store.now c.flush.new.store c.flush.ensures.writes c.flush.new.self c.in-Ok.ensures.saved.limits c.in-Ok.ensures.wrote
    _ (c.in-Ok-flushed_reply.ensures _) c.in-Err-write.fault _ _ _ c.of_items.ensures (λ e. write.no_read (ap Err e)) (λ e. write.front (ap Err e)) (λ e. write.none (ap Err e))
