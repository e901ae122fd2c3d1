use Rattle.line_reader.proofs.LineForm.{line_every, line_only}
use Rattle.line_reader.proofs.laws.line_is_form.Goals as goal

pub returns : goal.returns
returns c = record { only = line_only; every = line_every }
