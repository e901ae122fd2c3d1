use Rattle.generated_events.proofs.generator.event_of.Goals as goal

pub returns-in-Turn-clause-stage : goal.returns-in-Turn-clause-stage
returns-in-Turn-clause-stage c = c.behind_turn.ensures.stage c.args.count
