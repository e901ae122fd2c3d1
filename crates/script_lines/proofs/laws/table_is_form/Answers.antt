use Rattle.script_lines.proofs.TableForm.{table_every, table_only}
use Rattle.script_lines.proofs.laws.table_is_form.Goals as goal

pub returns : goal.returns
returns c = record { only = table_only; every = table_every }
