use Rattle.std.proofs.Common.{List, ℕ, length, subst}
use Rattle.command_pieces.specs.Written.{told_piece}
use Rattle.repository.specs.Priors.{number_named, with_prior}
use Rattle.repository.specs.Writes.{AreGone}
use Rattle.collection_commands.specs.PriorSetting.{prior_text}
use Rattle.collection_commands.proofs.StaleLemmas.{gone-old}
use Rattle.collection_commands.proofs.StepLemmas.{sweep-broken, sweep-done}
use Rattle.collection_commands.proofs.prior_setting.set_rows.Goals as goal

-- Behind `set_and_tell` the repository is ahead of nothing, so the sweep leaves what the files stand for.

pub returns-in-Ok-sweep-clause-does : goal.returns-in-Ok-sweep-clause-does
returns-in-Ok-sweep-clause-does g c =
    sweep-done (λ d. with_prior d c.args.name c.args.rows.now) (λ d. told_piece (prior_text c.args.name (length c.args.rows.now.rows))) _ _ _ _ _ _ _ _ _ _ c.in-Ok.ensures.does c.set_and_tell.new.repository c.in-Ok.ensures.ahead c.sweep.ensures.stands c.sweep.ensures.stops

pub returns-in-Ok-sweep-clause-swept : goal.returns-in-Ok-sweep-clause-swept
returns-in-Ok-sweep-clause-swept g c =
    gone-old c.args.repository.now.stale (number_named c.args.repository.now.priors c.args.name) _
    (subst (λ (ns : List ℕ). AreGone ns (g.T.Store.files c.sweep.new.store)) c.in-Ok.ensures.stale c.in-Ok-sweep.ensures.swept)

pub returns-in-Err-sweep-clause-does : goal.returns-in-Err-sweep-clause-does
returns-in-Err-sweep-clause-does g c =
    sweep-broken (λ d. with_prior d c.args.name c.args.rows.now) (λ d. told_piece (prior_text c.args.name (length c.args.rows.now.rows))) _ _ _ _ _ _ _ _ _ _ c.in-Ok.ensures.does c.set_and_tell.new.repository c.in-Ok.ensures.ahead c.sweep.ensures.stands c.sweep.ensures.stops c.in-Err-sweep.fault c.in-Err-sweep.ensures.only
