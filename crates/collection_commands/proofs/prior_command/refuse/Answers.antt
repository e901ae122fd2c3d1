use Rattle.collection_commands.proofs.PriorLemmas.{refused-broken, refused-finished, refused-unwritten}
use Rattle.collection_commands.proofs.prior_command.refuse.Goals as goal

pub returns-in_default-clause-broken : goal.returns-in_default-clause-broken
returns-in_default-clause-broken g c = λ k told s. refused-unwritten k c.args.refusal.now _ _ s

pub returns-in-Ok-write-clause-finished : goal.returns-in-Ok-write-clause-finished
returns-in-Ok-write-clause-finished g c = λ k told s. refused-finished k c.args.refusal.now _ _ _ _ c.in-Ok.ensures c.in-Ok-write.ensures.finished s

pub returns-clause-broken : goal.returns-clause-broken
returns-clause-broken g c = λ k told s. refused-broken c.in-Err.fault _ k c.args.refusal.now _ _ _ _ c.of_items.ensures c.in-Ok.ensures c.in-Err.ensures.broken s
