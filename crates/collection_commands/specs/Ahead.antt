-- A repository whose documents were changed since its last flush.
use Rattle.std.specs.Prelude.{Option}
use Rattle.store_ends.specs.Files.{Files}
use Rattle.repository.specs.RealLimits.{AreReal, StandsFor}
use Rattle.repository.specs.Stands.{Collection}
use Rattle.repository.specs.States.{IsBacked, ReadsAs, State}

-- Together with the files it is one collection, and the files alone stand for another, that of the last flush.
pub record IsAhead (told : Option Files) (s : State) (kept now : Collection) : Type 0 where
  pub backed : IsBacked told s
  pub real : AreReal s.held.limits
  pub stands : StandsFor kept told
  pub reads : ReadsAs told s now
