use Rattle.std.proofs.Common.{sym}
use Rattle.indri_app.proofs.RunsOver.{memory-some}
use Rattle.indri_app.proofs.program.run.Goals as goal

pub returns-in-Ok-Some-clause-has_run : goal.returns-in-Ok-Some-clause-has_run
returns-in-Ok-Some-clause-has_run g c = rw (sym (rw c.in-Ok-Some.field-0-is at c.in-Ok-Some.ensures.words)) c.run_words.ensures.has_run

pub returns-in-Ok-None-clause-has_run : goal.returns-in-Ok-None-clause-has_run
returns-in-Ok-None-clause-has_run g c = rw (sym (rw c.in-Ok-None.field-0-is at c.in-Ok-None.ensures.words)) tt

pub returns-in-Err-clause-has_run : goal.returns-in-Err-clause-has_run
returns-in-Err-clause-has_run g c = memory-some _ _ _ _ _ _ _

pub returns-in-Ok-Some-clause-usage : goal.returns-in-Ok-Some-clause-usage
returns-in-Ok-Some-clause-usage g c = λ is. absurd (c.run_words.ensures.has_run.command is)

pub returns-in-Ok-Some-clause-no_command : goal.returns-in-Ok-Some-clause-no_command
returns-in-Ok-Some-clause-no_command g c = λ none.
    let words = rw c.in-Ok-Some.field-0-is at c.in-Ok-Some.ensures.words in
    absurd cc
