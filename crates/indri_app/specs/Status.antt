-- The exit statuses of the program.
use Rattle.std.specs.Prelude.{ℕ}
use Rattle.indri_app.specs.declared.status.Status.{Status}
use Rattle.indri_app.specs.declared.status.Status.TheVariants.{Done, Exists, Malformed, Memory, NoRepository, QueryRefused, ReadFault, SomeRefused, StoreFault, Usage, WriteFault}

abbrev pub code_of : Status → ℕ
code_of Done = 0
code_of Usage = 1
code_of QueryRefused = 2
code_of SomeRefused = 3
code_of ReadFault = 4
code_of WriteFault = 5
code_of StoreFault = 6
code_of Malformed = 7
code_of NoRepository = 8
code_of Exists = 8
code_of Memory = 9
