use Rattle.std.proofs.Common.{rules, refl}
use Rattle.store_ends.proofs.change.record.Goals as goal

pub returns-clause-ok : goal.returns-clause-ok
returns-clause-ok c = (
  record { name = c.in_ok-name.name; state = c.in_ok-state.state; done = c.args.done; torn = c.args.torn },
  c.in_ok-push.ensures.items,
  record { same_name = search rules; same_state = c.in_ok-state.ensures; same_done = refl; same_torn = refl },
)
