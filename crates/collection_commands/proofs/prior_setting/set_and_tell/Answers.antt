use Rattle.std.proofs.Common.{length, ap, Err}
use Rattle.command_pieces.specs.Written.{told_piece}
use Rattle.repository.specs.Priors.{with_prior}
use Rattle.repository.specs.States.{State}
use Rattle.collection_commands.specs.PriorSetting.{prior_text}
use Rattle.collection_commands.proofs.PriorLemmas.{told-rows}
use Rattle.collection_commands.proofs.StepLemmas.{change-ahead, change-refused, change-told, change-untold, none-done}
use Rattle.collection_commands.proofs.prior_setting.set_and_tell.Goals as goal

-- there is no memory for the reply

pub returns-in_default-clause-does : goal.returns-in_default-clause-does
returns-in_default-clause-does g c = none-done (λ d. with_prior d c.args.name c.args.rows.now) (λ d. told_piece (prior_text c.args.name (length c.args.rows.now.rows))) _ _ _ _

-- it is refused

pub returns-in-Err-clause-does : goal.returns-in-Err-clause-does
returns-in-Err-clause-does g c =
    change-refused (λ d. with_prior d c.args.name c.args.rows.now) (λ d. told_piece (prior_text c.args.name (length c.args.rows.now.rows))) _ g.T.Store.clock _ _ _ c.args.store.now c.set_prior.new.store c.set_prior.ensures.writes (g.met.T.Store.honest c.set_prior.new.store) (g.met.T.Store.still c.args.store.now)
    c.set_prior.ensures.goes_on.later c.in-Err.fault _ _ c.of_files.ensures

-- it is done, and the reply is written

pub returns-in-Ok-write-clause-does : goal.returns-in-Ok-write-clause-does
returns-in-Ok-write-clause-does g c =
    change-told (λ d. with_prior d c.args.name c.args.rows.now) (λ d. told_piece (prior_text c.args.name (length c.args.rows.now.rows))) _ g.T.Store.clock _ _ _ c.args.store.now c.set_prior.new.store c.set_prior.ensures.writes c.set_prior.new.self (ap (λ (s : State). s.held.limits) (c.in-Ok-true.ensures.set c.in-Ok-true.field-0-test).2) (c.in-Ok-true.ensures.wrote c.in-Ok-true.field-0-test)
    _ (λ d reads. told-rows c.args.name c.rows.result.now c.args.rows.now c.in-Ok.text.items _ c.rows.ensures.same c.in-Ok.ensures c.told.ensures) _ _ c.in-Ok-write.ensures.finished

pub returns-in-Ok-write-clause-ahead : goal.returns-in-Ok-write-clause-ahead
returns-in-Ok-write-clause-ahead g c = change-ahead (λ d. with_prior d c.args.name c.args.rows.now) (λ d. told_piece (prior_text c.args.name (length c.args.rows.now.rows))) _ g.T.Store.clock _ _ _ c.args.store.now c.set_prior.new.store c.set_prior.ensures.writes c.set_prior.new.self (ap (λ (s : State). s.held.limits) (c.in-Ok-true.ensures.set c.in-Ok-true.field-0-test).2) (c.in-Ok-true.ensures.wrote c.in-Ok-true.field-0-test)

-- the reply isn't written

pub returns-clause-does : goal.returns-clause-does
returns-clause-does g c =
    let write = c.in-Err-write.ensures in
    change-untold (λ d. with_prior d c.args.name c.args.rows.now) (λ d. told_piece (prior_text c.args.name (length c.args.rows.now.rows))) _ g.T.Store.clock _ _ _ c.args.store.now c.set_prior.new.store c.set_prior.ensures.writes c.set_prior.new.self (ap (λ (s : State). s.held.limits) (c.in-Ok-true.ensures.set c.in-Ok-true.field-0-test).2) (c.in-Ok-true.ensures.wrote c.in-Ok-true.field-0-test)
    _ (λ d reads. told-rows c.args.name c.rows.result.now c.args.rows.now c.in-Ok.text.items _ c.rows.ensures.same c.in-Ok.ensures c.told.ensures) c.in-Err-write.fault _ _ _ c.of_items.ensures (λ e. write.no_read (ap Err e)) (λ e. write.front (ap Err e)) (λ e. write.none (ap Err e))
