use Rattle.script_reader.proofs.ScriptForm.{script_every, script_only}
use Rattle.script_reader.proofs.laws.script_is_form.Goals as goal

pub returns : goal.returns
returns c = record { only = script_only; every = script_every }
