use Rattle.std.proofs.Common.{rules}
use Rattle.bounded_keys.proofs.Kepts.{slack_value}
use Rattle.bounded_keys.proofs.threshold.slack_of.Goals as goal

pub returns : goal.returns
returns c = slack_value c.args.scale _ (search rules) (search rules)
