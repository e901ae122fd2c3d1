use Rattle.range_bounds.proofs.Leads.{rule_tells}
use Rattle.range_bounds.proofs.beliefs.ask_rule.Goals as goal

pub returns : goal.returns
returns g c = λ tf len cf total counts. rule_tells c.args.rule.now.kind tf len cf total c.belief.result c.belief.ensures.exact counts
