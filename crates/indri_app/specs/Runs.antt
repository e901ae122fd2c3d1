-- What a run has done, by the status with which it ends.
use Rattle.std.specs.Prelude.{ℕ, ◌≡◌, ◌⊎◌, Bool, true, false, List, Option, None, Some, Result, Ok, Err}
use Rattle.ri_base.specs.Expression.{ExprTree}
use Rattle.store_ends.specs.Files.{Files, Leaves}
use Rattle.command_words.specs.Table.{Asks, add, create, delete, explain, gen, merge, prior, query, scan, session}
use Rattle.command_pieces.specs.CommandFaults.{IsBrokenBy, IsDamage, of_items}
use Rattle.command_pieces.specs.Lines.{EndsIn, WritesLine}
use Rattle.command_pieces.specs.Pieces.{BrokenOff, Finished, Piece, StandsAlong, StoppedBetween, Writes, WritesFront, some_refused}
use Rattle.command_pieces.specs.Written.{AllWritten, CutBetween, CutThenLine, CutWithin, Plain}
use Rattle.command_pieces.specs.declared.command_fault.CommandFault.{CommandFault}
use Rattle.command_pieces.specs.declared.fault.Fault.{Fault}
use Rattle.document_handlers.specs.Work.{input_pieces, scanning}
use Rattle.query_reader.specs.QueryText.{expr_text}
use Rattle.query_reader.specs.declared.fault.QueryKind.{QueryKind}
use Rattle.trec_reader.specs.Read.{read}
use Rattle.query_refusals.specs.Lines.{line_of}
use Rattle.query_refusals.specs.declared.refusal.QueryRefusal.{QueryRefusal}
use Rattle.query_refusals.specs.declared.refusal.QueryRefusal.TheVariants.{Text}
use Rattle.repository.specs.RealLimits.{StandsFor}
use Rattle.repository.specs.Stands.{Collection}
use Rattle.collection_commands.specs.Creation.{IsMade}
use Rattle.desk.specs.Priors.{names_with}
use Rattle.indri_app.specs.Sessions.{Grows}
use Rattle.indri_app.specs.Command.{AreBegun, AreBegunBy, AreMakingPieces, ArePieces, MakesRepository, text_refusal}
use Rattle.indri_app.specs.Generated.{MakingPiece}
use Rattle.indri_app.specs.LastLines.{IsClosed, exists_line, last_line, read_line, store_line}
use Rattle.indri_app.specs.declared.status.Status.{Status}
use Rattle.indri_app.specs.declared.status.Status.TheVariants.{Done, Exists, Malformed, Memory, NoRepository, QueryRefused, ReadFault, SomeRefused, StoreFault, Usage, WriteFault}

-- All pieces of the command are done, and some refuse, or none does.
abbrev pub IsDone : Option Files → Asks → Collection → List ℕ → Bool → Option (List ℕ) → Option (List ℕ) → Option Files → Type 0
IsDone told asks c bytes refused before now files =
    (pieces : List (Piece Collection)) × ArePieces told asks c bytes pieces × (some_refused pieces ≡ refused) × Finished StandsFor c pieces before now files

-- Whole pieces were done, and behind them stands a last line.
abbrev pub IsEndedIn : List ℕ → Option Files → Asks → Collection → List ℕ → Option (List ℕ) → Option (List ℕ) → Option Files → ℕ → ℕ → Type 0
IsEndedIn line told asks c bytes before now files count_before count_now =
    (pieces : List (Piece Collection)) × AreBegun told asks c bytes pieces × EndsIn line StandsFor c pieces before now files count_before count_now

-- A command is broken off at some of its pieces, or at none where they can't be told yet.
abbrev pub IsBegun : CommandFault → Option Files → Asks → Collection → List ℕ → Option (List ℕ) → Option (List ℕ) → Option Files → Type 0
IsBegun why told asks c bytes before now files = (pieces : List (Piece Collection)) × AreBegunBy why told asks c bytes pieces × IsBrokenBy why StandsFor c pieces before now files

-- the line of the refusal of the command's text is written, and the files stay
pub record IsTextRefused (told : Option Files) (asks : Asks) (c : Collection) (before now : Option (List ℕ)) (files : Option Files) : Type 0 where
  pub why : QueryRefusal
  pub refused : text_refusal (names_with c.priors) asks ≡ Some why
  pub written : Writes before now (line_of why)
  pub same : files ≡ told

-- What a command has done on files that stand for a collection. Where damage of them is found, whole pieces were done, and the last line
-- tells of the damage.
abbrev pub RunsTo : Status → Option Files → Asks → Collection → List ℕ → Option (List ℕ) → Option (List ℕ) → Option Files → ℕ → ℕ → Type 0
RunsTo Done told asks c bytes before now files count_before count_now = IsDone told asks c bytes false before now files
RunsTo SomeRefused told asks c bytes before now files count_before count_now = IsDone told asks c bytes true before now files
RunsTo ReadFault told asks c bytes before now files count_before count_now = IsEndedIn read_line told asks c bytes before now files count_before count_now
RunsTo StoreFault told asks c bytes before now files count_before count_now = IsEndedIn store_line told asks c bytes before now files count_before count_now
RunsTo WriteFault told asks c bytes before now files count_before count_now =
    ((pieces : List (Piece Collection)) × ArePieces told asks c bytes pieces × BrokenOff StandsFor c pieces before now files)
    ⊎ ((why : QueryRefusal) × (text_refusal (names_with c.priors) asks ≡ Some why) × WritesFront before now (line_of why) × (files ≡ told))
RunsTo Memory told asks c bytes before now files count_before count_now =
    (pieces : List (Piece Collection)) × AreBegun told asks c bytes pieces × StoppedBetween StandsFor c pieces before now files
RunsTo QueryRefused told asks c bytes before now files count_before count_now = IsTextRefused told asks c before now files
RunsTo Exists told asks c bytes before now files count_before count_now = MakesRepository asks × WritesLine before now exists_line count_before count_now × (files ≡ told)
RunsTo Malformed told asks c bytes before now files count_before count_now =
    (why : CommandFault) × IsDamage why × ((line : List ℕ) × (last_line why ≡ Some line) × IsEndedIn line told asks c bytes before now files count_before count_now)
RunsTo Usage told asks c bytes before now files count_before count_now = ⊥
RunsTo NoRepository told asks c bytes before now files count_before count_now = ⊥

-- What a command that makes a repository has done where there is no manifest.
abbrev pub MakesTo : Status → Asks → Option Files → Option (List ℕ) → Option (List ℕ) → Option Files → ℕ → ℕ → Type 0
MakesTo Done asks told before now files count_before count_now = (pieces : List MakingPiece) × AreMakingPieces asks pieces × Finished (IsMade told) None pieces before now files
MakesTo StoreFault asks told before now files count_before count_now =
    (pieces : List MakingPiece) × AreMakingPieces asks pieces × EndsIn store_line (IsMade told) None pieces before now files count_before count_now
MakesTo WriteFault asks told before now files count_before count_now = (pieces : List MakingPiece) × AreMakingPieces asks pieces × BrokenOff (IsMade told) None pieces before now files
MakesTo Memory asks told before now files count_before count_now = (pieces : List MakingPiece) × AreMakingPieces asks pieces × StoppedBetween (IsMade told) None pieces before now files
MakesTo SomeRefused asks told before now files count_before count_now = ⊥
MakesTo ReadFault asks told before now files count_before count_now = ⊥
MakesTo QueryRefused asks told before now files count_before count_now = ⊥
MakesTo Exists asks told before now files count_before count_now = ⊥
MakesTo Usage asks told before now files count_before count_now = ⊥
MakesTo Malformed asks told before now files count_before count_now = ⊥
MakesTo NoRepository asks told before now files count_before count_now = ⊥

-- What a stop may leave of it: there is no manifest yet, or the files stand for a collection.
abbrev pub MakesAlong : Asks → Option Files → (ℕ → Files → Type 0) → (ℕ → Files → Type 0) → Type 0
MakesAlong asks told past since = (pieces : List MakingPiece) × AreMakingPieces asks pieces × Leaves past since (StandsAlong (IsMade told) None pieces)

-- What a stop may leave of the files that stood for a collection.
abbrev pub StopsAlong : Option Files → Asks → Collection → List ℕ → (ℕ → Files → Type 0) → (ℕ → Files → Type 0) → Type 0
StopsAlong told asks c bytes past since = (pieces : List (Piece Collection)) × AreBegun told asks c bytes pieces × Leaves past since (StandsAlong StandsFor c pieces)

-- A run that writes one line, which says why there is no command: it ends with this status and the line is written; or
-- the sink failed and a front of it is written; or there was no memory and nothing is written.
abbrev pub Tells : Status → List ℕ → Status → Option (List ℕ) → Option (List ℕ) → Type 0
Tells told line status before now =
    ((status ≡ told) × Writes before now line) ⊎ ((status ≡ WriteFault) × WritesFront before now line) ⊎ ((status ≡ Memory) × (now ≡ before))

-- A run ends by what its command answered.
abbrev pub IsEnded : Result Bool CommandFault → Status → Option (List ℕ) → Option (List ℕ) → ℕ → ℕ → Type 0
IsEnded (Ok false) status before now count_before count_now = (status ≡ Done) × (now ≡ before)
IsEnded (Ok true) status before now count_before count_now = (status ≡ SomeRefused) × (now ≡ before)
IsEnded (Err why) status before now count_before count_now = IsClosed why status before now count_before count_now

-- what a command answers that changes no file
abbrev pub items_answer : Result Bool Fault → Result Bool CommandFault
items_answer (Ok refused) = Ok refused
items_answer (Err why) = Err (of_items why)

-- how a run ends that needs a repository and finds no manifest
abbrev pub IsAbsentStatus : Status → Type 0
IsAbsentStatus status = (status ≡ NoRepository) ⊎ (status ≡ StoreFault) ⊎ (status ≡ Memory)

-- how a command that makes one ends where there is a manifest
abbrev pub IsExistsStatus : Status → Type 0
IsExistsStatus status = (status ≡ Exists) ⊎ (status ≡ StoreFault) ⊎ (status ≡ Memory)

-- nothing is done with the files and the input
abbrev pub IsUntouched : Status → Type 0
IsUntouched status = (status ≡ Usage) ⊎ (status ≡ QueryRefused) ⊎ (status ≡ NoRepository) ⊎ (status ≡ Exists)

-- what is written ends with the line of the damage that was found, and of it all but where the sink's count rose
abbrev pub WritesDamage : Option (List ℕ) → Option (List ℕ) → ℕ → ℕ → Type 0
WritesDamage before now count_before count_now = (why : CommandFault) × IsDamage why × ((line : List ℕ) × (last_line why ≡ Some line) × WritesLine before now line count_before count_now)

-- the same behind what a session has written
abbrev pub WritesDamageOf : Asks → Option (List ℕ) → Option (List ℕ) → ℕ → ℕ → Type 0
WritesDamageOf (scan text) before now count_before count_now = WritesDamage before now count_before count_now
WritesDamageOf create before now count_before count_now = WritesDamage before now count_before count_now
WritesDamageOf add before now count_before count_now = WritesDamage before now count_before count_now
WritesDamageOf delete before now count_before count_now = WritesDamage before now count_before count_now
WritesDamageOf merge before now count_before count_now = WritesDamage before now count_before count_now
WritesDamageOf (prior name) before now count_before count_now = WritesDamage before now count_before count_now
WritesDamageOf (session mu) before now count_before count_now = (written : Option (List ℕ)) × Grows before written × WritesDamage written now count_before count_now
WritesDamageOf (gen count) before now count_before count_now = WritesDamage before now count_before count_now
WritesDamageOf (query question) before now count_before count_now = WritesDamage before now count_before count_now
WritesDamageOf (explain rank question) before now count_before count_now = WritesDamage before now count_before count_now

-- all pieces were done
abbrev pub IsAllDone : Status → Type 0
IsAllDone status = (status ≡ Done) ⊎ (status ≡ SomeRefused)

-- a command was done
abbrev pub HasDone : Status → Type 0
HasDone status = (status ≡ Done) ⊎ (status ≡ SomeRefused) ⊎ (status ≡ QueryRefused)

-- ---- a command that changes no file

-- What a command of these pieces has written.
abbrev pub WritesBy : Status → List Plain → Option (List ℕ) → Option (List ℕ) → ℕ → ℕ → Type 0
WritesBy Done pieces before now count_before count_now = (some_refused pieces ≡ false) × AllWritten pieces before now
WritesBy SomeRefused pieces before now count_before count_now = (some_refused pieces ≡ true) × AllWritten pieces before now
WritesBy ReadFault pieces before now count_before count_now = CutThenLine read_line pieces before now count_before count_now
WritesBy WriteFault pieces before now count_before count_now = CutWithin pieces before now
WritesBy Memory pieces before now count_before count_now = CutBetween pieces before now
WritesBy QueryRefused pieces before now count_before count_now = ⊥
WritesBy Exists pieces before now count_before count_now = ⊥
WritesBy StoreFault pieces before now count_before count_now = ⊥
WritesBy Usage pieces before now count_before count_now = ⊥
WritesBy Malformed pieces before now count_before count_now = ⊥
WritesBy NoRepository pieces before now count_before count_now = ⊥

-- a run that looks at no file ends so
abbrev pub IsPlainStatus : Status → Type 0
IsPlainStatus Done = Unit {0}
IsPlainStatus SomeRefused = Unit {0}
IsPlainStatus ReadFault = Unit {0}
IsPlainStatus WriteFault = Unit {0}
IsPlainStatus Memory = Unit {0}
IsPlainStatus QueryRefused = Unit {0}
IsPlainStatus Exists = ⊥
IsPlainStatus StoreFault = ⊥
IsPlainStatus Usage = ⊥
IsPlainStatus Malformed = ⊥
IsPlainStatus NoRepository = ⊥

-- a run whose answer is one piece ends so
abbrev pub IsReplyStatus : Status → Type 0
IsReplyStatus Done = Unit {0}
IsReplyStatus SomeRefused = Unit {0}
IsReplyStatus ReadFault = ⊥
IsReplyStatus WriteFault = Unit {0}
IsReplyStatus Memory = Unit {0}
IsReplyStatus QueryRefused = ⊥
IsReplyStatus Exists = ⊥
IsReplyStatus StoreFault = ⊥
IsReplyStatus Usage = ⊥
IsReplyStatus Malformed = ⊥
IsReplyStatus NoRepository = ⊥

-- What a scan has written of these bytes, or the line of its text's refusal.
abbrev pub ScansFor : Result ExprTree (QueryKind × ℕ) → Status → List ℕ → Option (List ℕ) → Option (List ℕ) → ℕ → ℕ → Type 0
ScansFor (Ok x) status bytes before now count_before count_now = WritesBy status (input_pieces (scanning x) (read bytes)) before now count_before count_now
ScansFor (Err fault) status bytes before now count_before count_now = Tells QueryRefused (line_of (Text fault.0 fault.1)) status before now

-- Want of memory may come before the text is read.
abbrev pub ScansTo : Status → List ℕ → List ℕ → Option (List ℕ) → Option (List ℕ) → ℕ → ℕ → Type 0
ScansTo status text bytes before now count_before count_now = ScansFor (expr_text text) status bytes before now count_before count_now
