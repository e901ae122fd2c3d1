use Rattle.collection_commands.proofs.CommitLemmas.{ahead-now, ahead-stops, one-of, stops-one}
use Rattle.collection_commands.proofs.sweeping.sweep.Goals as goal

-- it is done

pub returns-in-Ok-clause-stops : goal.returns-in-Ok-clause-stops
returns-in-Ok-clause-stops g c = λ k ahead. stops-one _ _ k (ahead-stops _ g.T.Store.clock _ _ (λ d. d) _ c.args.store.now c.sweep.new.store k k c.sweep.ensures.writes ahead)

-- it is refused

pub returns-in-Err-clause-stands : goal.returns-in-Err-clause-stands
returns-in-Err-clause-stands g c = λ k ahead.
    one-of k _ (ahead-now _ g.T.Store.clock _ _ (λ d. d) _ c.args.store.now c.sweep.new.store k k (g.met.T.Store.honest c.sweep.new.store) (g.met.T.Store.still c.args.store.now) c.sweep.ensures.goes_on.later c.sweep.ensures.writes ahead)

pub returns-in-Err-clause-stops : goal.returns-in-Err-clause-stops
returns-in-Err-clause-stops g c = λ k ahead. stops-one _ _ k (ahead-stops _ g.T.Store.clock _ _ (λ d. d) _ c.args.store.now c.sweep.new.store k k c.sweep.ensures.writes ahead)
