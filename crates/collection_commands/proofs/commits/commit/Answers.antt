use Rattle.std.proofs.Common.{List, ℕ, subst}
use Rattle.repository.specs.Writes.{AreGone}
use Rattle.collection_commands.specs.Flushing.{flushed_piece}
use Rattle.collection_commands.proofs.StepLemmas.{sweep-broken, sweep-done}
use Rattle.collection_commands.proofs.commits.commit.Goals as goal

-- Behind `flush_and_tell` the repository is ahead of nothing, so the sweep leaves what the files stand for.

pub returns-in-Ok-sweep-clause-finished : goal.returns-in-Ok-sweep-clause-finished
returns-in-Ok-sweep-clause-finished g c =
    (sweep-done (λ d. d) flushed_piece _ _ _ _ _ _ _ _ _ _ c.in-Ok.ensures.does c.flush_and_tell.new.repository c.in-Ok.ensures.ahead c.sweep.ensures.stands c.sweep.ensures.stops).finished

pub returns-in-Ok-sweep-clause-stops : goal.returns-in-Ok-sweep-clause-stops
returns-in-Ok-sweep-clause-stops g c =
    (sweep-done (λ d. d) flushed_piece _ _ _ _ _ _ _ _ _ _ c.in-Ok.ensures.does c.flush_and_tell.new.repository c.in-Ok.ensures.ahead c.sweep.ensures.stands c.sweep.ensures.stops).stops

pub returns-in-Ok-sweep-clause-swept : goal.returns-in-Ok-sweep-clause-swept
returns-in-Ok-sweep-clause-swept g c = subst (λ (ns : List ℕ). AreGone ns (g.T.Store.files c.sweep.new.store)) c.in-Ok.ensures.stale c.in-Ok-sweep.ensures.swept

pub returns-in-Err-sweep-clause-broken : goal.returns-in-Err-sweep-clause-broken
returns-in-Err-sweep-clause-broken g c =
    (sweep-broken (λ d. d) flushed_piece _ _ _ _ _ _ _ _ _ _ c.in-Ok.ensures.does c.flush_and_tell.new.repository c.in-Ok.ensures.ahead c.sweep.ensures.stands c.sweep.ensures.stops c.in-Err-sweep.fault c.in-Err-sweep.ensures.only).broken

pub returns-in-Err-sweep-clause-stops : goal.returns-in-Err-sweep-clause-stops
returns-in-Err-sweep-clause-stops g c =
    (sweep-broken (λ d. d) flushed_piece _ _ _ _ _ _ _ _ _ _ c.in-Ok.ensures.does c.flush_and_tell.new.repository c.in-Ok.ensures.ahead c.sweep.ensures.stands c.sweep.ensures.stops c.in-Err-sweep.fault c.in-Err-sweep.ensures.only).stops
