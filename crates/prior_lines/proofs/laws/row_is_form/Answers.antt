use Rattle.prior_lines.proofs.FormLemmas.{row_every, row_only}
use Rattle.prior_lines.proofs.laws.row_is_form.Goals as goal

pub returns : goal.returns
returns c = record { only = row_only; every = row_every }
