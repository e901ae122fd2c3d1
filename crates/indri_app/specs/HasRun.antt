-- What a run of a command has done, by what its words ask for.
use Rattle.std.specs.Prelude.{ℕ, ◌≡◌, List, Option, None, Some, IfSome, IsTrue, is_some}
use Rattle.store_ends.specs.Files.{Files}
use Rattle.command_words.specs.Table.{Asks, scan}
use Rattle.command_pieces.specs.Lines.{WritesLine}
use Rattle.repository.specs.Names.{manifest_name}
use Rattle.repository.specs.RealLimits.{StandsFor}
use Rattle.repository.specs.Stands.{Collection}
use Rattle.indri_app.specs.Asked.{AreWhole, IsIntact, IsIntactWithPriors}
use Rattle.indri_app.specs.Command.{MakesInOrder, MakesRepository, NeedsRepository, ReadsBlocks, ReadsPriors, ShowsInOrder}
use Rattle.indri_app.specs.LastLines.{absent_line, exists_line}
use Rattle.indri_app.specs.Runs.{HasDone, IsAbsentStatus, IsAllDone, IsExistsStatus, MakesAlong, MakesTo, RunsTo, ScansTo, StopsAlong, WritesDamageOf}
use Rattle.indri_app.specs.declared.status.Status.{Status}
use Rattle.indri_app.specs.declared.status.Status.TheVariants.{Exists, Malformed, NoRepository, Usage}

-- `left` is what the source has left at entry, `told` the files at entry and `files` those at the end; `past` and `since` are what a stop
-- may leave then; `before` and `now` are what the sink has taken, and its counts of faults stand at the two numbers.
pub record HasRun (asks : Asks) (status : Status) (left : Option (List ℕ)) (told files : Option Files) (past since : ℕ → Files → Type 0) (before now : Option (List ℕ)) (count_before count_now : ℕ) : Type 0 where
  -- over files that stand for a collection, and what a stop may leave of them
  pub runs : (c : Collection) → StandsFor c told → IfSome left (λ bytes. RunsTo status told asks c bytes before now files count_before count_now)
  pub stops : (c : Collection) → StandsFor c told → IfSome left (λ bytes. StopsAlong told asks c bytes past since)
  -- what a session shows stands in a true order
  pub order : (c : Collection) → StandsFor c told → IsAllDone status → ShowsInOrder asks c left
  -- `create` and `gen` where there is no manifest
  pub made : MakesRepository asks → (f : Files) → told ≡ Some f → (f manifest_name).read ≡ None → MakesTo status asks (Some f) before now files count_before count_now
  pub made_stops : MakesRepository asks → (f : Files) → told ≡ Some f → (f manifest_name).read ≡ None → MakesAlong asks (Some f) past since
  pub made_order : MakesRepository asks → (f : Files) → told ≡ Some f → (f manifest_name).read ≡ None → IsAllDone status → MakesInOrder asks
  -- a scan, over any files
  pub scans : (text : List ℕ) → asks ≡ scan text → IfSome left (λ bytes. ScansTo status text bytes before now count_before count_now)
  -- Damage: it isn't told where the files stand for a collection, if all are read as they were put or the command reads no blocks; nor
  -- where there is no manifest. And it isn't passed over.
  pub sound : status ≡ Malformed → (c : Collection) → StandsFor c told → (ReadsBlocks asks → AreWhole told) → ⊥
  pub there : (f : Files) → told ≡ Some f → status ≡ Malformed → IsTrue (is_some (f manifest_name).read)
  pub damage : status ≡ Malformed → WritesDamageOf asks before now count_before count_now
  pub intact : (f : Files) → told ≡ Some f → HasDone status → NeedsRepository asks → IsIntact told
  pub intact_priors : (f : Files) → told ≡ Some f → HasDone status → ReadsPriors asks → IsIntactWithPriors told
  -- there is no manifest where one is needed
  pub absent : (f : Files) → told ≡ Some f → status ≡ NoRepository → NeedsRepository asks × ((f manifest_name).read ≡ None)
  pub without : (f : Files) → told ≡ Some f → (f manifest_name).read ≡ None → NeedsRepository asks → IsAbsentStatus status
  pub absent_line_is : status ≡ NoRepository → WritesLine before now absent_line count_before count_now
  -- there is one where `create` and `gen` need none
  pub exists : (f : Files) → told ≡ Some f → MakesRepository asks → IsTrue (is_some (f manifest_name).read) → IsExistsStatus status
  pub exists_there : (f : Files) → told ≡ Some f → status ≡ Exists → MakesRepository asks × IsTrue (is_some (f manifest_name).read)
  pub exists_line_is : status ≡ Exists → WritesLine before now exists_line count_before count_now
  -- it is a command
  pub command : status ≡ Usage → ⊥
