use Rattle.ri_base.specs.Queries.{whole_tree}
use Rattle.query_check.specs.Answers.{whole_checked}
use Rattle.desk.proofs.AskedLemmas.{checked-asks}
use Rattle.desk.proofs.asking.ask.Goals as goal

pub returns-in-Ok-check-clause-asks : goal.returns-in-Ok-check-clause-asks
returns-in-Ok-check-clause-asks c = checked-asks c.args.priors.now (whole_tree c.in-Ok.query) (whole_checked c.in-Ok-check.checked) c.in-Ok-check.ensures.exact
