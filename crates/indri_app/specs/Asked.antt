-- What a question over the files of a store comes to.
use Rattle.std.specs.Prelude.{◌≡◌, ℕ, List, Option, None, Some}
use Rattle.std.specs.List.{AllZip}
use Rattle.ri_base.specs.Documents.{Document}
use Rattle.smoothing.specs.declared.rule.RuleKind.{RuleKind}
use Rattle.smoothing.specs.declared.rule.RuleKind.TheVariants.{Dirichlet}
use Rattle.belief_nodes.specs.Priors.{Prior as Told}
use Rattle.store_ends.specs.Files.{Files}
use Rattle.query_check.specs.Check.{CheckedTree}
use Rattle.query_reader.specs.QueryText.{query_text}
use Rattle.command_pieces.specs.Written.{Plain}
use Rattle.command_pieces.specs.declared.command_fault.CommandFault.{CommandFault}
use Rattle.command_pieces.specs.declared.command_fault.CommandFault.TheVariants as fault
use Rattle.holdings.specs.declared.limits.Limits.{Limits}
use Rattle.repository.specs.Names.{manifest_name}
use Rattle.repository.specs.Opening.{IsRepositoryOpened}
use Rattle.repository.specs.Stands.{Collection, IsPriorRead, Prior}
use Rattle.repository.specs.States.{State}
use Rattle.desk.specs.Answer.{IsAnswerText}
use Rattle.desk.specs.Priors.{names_with, priors_with}
use Rattle.desk.specs.Shown.{Shown}
use Rattle.indri_app.specs.Command.{IsQuery, answer_piece, query_refusal}
use Rattle.indri_app.specs.Opened.{IsFileFault, IsOpenFault, IsWant}
use Rattle.indri_app.specs.declared.question.AskFault.{AskFault}
use Rattle.indri_app.specs.declared.question.AskFault.TheVariants.{Broken, Refused}
use Rattle.indri_app.specs.declared.texts.TextFault.{TextFault}
use Rattle.indri_app.specs.declared.texts.TextFault.TheVariants as text

-- the piece of the answer over the live documents
abbrev pub IsAsked : Collection → List ℕ → ℕ → Shown → Plain → Type 0
IsAsked c text mu shown piece =
    (q : CheckedTree) × IsQuery (names_with c.priors) text q × ((answer : Option (List ℕ))
    × IsAnswerText (Dirichlet mu) (priors_with c.priors) (names_with c.priors) shown q c.live answer × (piece ≡ answer_piece answer))

-- the text is refused so, or a file isn't read
abbrev pub IsAskFault : Collection → List ℕ → AskFault → Type 0
IsAskFault c text (Refused why) = query_refusal (names_with c.priors) (query_text text) ≡ Some why
IsAskFault c text (Broken why) = IsFileFault why

-- where a file isn't read, the store or memory is to blame
abbrev pub IsAskWant : AskFault → Type 0
IsAskWant (Refused why) = Unit {0}
IsAskWant (Broken why) = IsWant why

abbrev pub ask_fault : TextFault → AskFault
ask_fault (text.Refused why) = Refused why
ask_fault text.Memory = Broken fault.Memory

-- by the manifest: none is read exactly where that is told; neither the input nor the sink is to blame
abbrev pub IsBrokenOver : Files → CommandFault → Type 0
IsBrokenOver files fault.Read = ⊥
IsBrokenOver files fault.Write = ⊥
IsBrokenOver files fault.Store = Unit {0}
IsBrokenOver files (fault.Malformed f p place) = (files manifest_name).read ≡ None → ⊥
IsBrokenOver files (fault.Missing f) = (files manifest_name).read ≡ None → ⊥
IsBrokenOver files fault.NoRepository = (files manifest_name).read ≡ None
IsBrokenOver files fault.Exists = ⊥
IsBrokenOver files fault.Memory = Unit {0}

abbrev pub IsFaultOver : Files → AskFault → Type 0
IsFaultOver files (Refused why) = (files manifest_name).read ≡ None → ⊥
IsFaultOver files (Broken why) = IsBrokenOver files why

-- ---- files that aren't damaged

-- each file that is told is read as it was put
abbrev pub AreWhole : Option Files → Type 0
AreWhole told = (files : Files) → told ≡ Some files → (name : List ℕ) → (files name).read ≡ (files name).put

-- what is read of a repository when it is opened is in its grammar, and its parts can be held together
abbrev pub IsIntact : Option Files → Type 0
IsIntact told = (limits : Limits) × ((s : State) × IsRepositoryOpened told limits s)

-- and what is read of the file of each of its priors is in its grammar
abbrev pub IsIntactWithPriors : Option Files → Type 0
IsIntactWithPriors told = (limits : Limits) × ((s : State) × IsRepositoryOpened told limits s × ((ps : List Prior) × AllZip (IsPriorRead told) s.priors ps))

abbrev pub IfRefused : AskFault → Type 0 → Type 0
IfRefused (Refused why) P = P
IfRefused (Broken why) P = Unit {0}

-- neither the input nor the sink is to blame
abbrev pub IsAskBroken : AskFault → Type 0
IsAskBroken (Refused why) = Unit {0}
IsAskBroken (Broken why) = IsOpenFault why

-- it is open, and its text is refused, or a file isn't read
abbrev pub IsOpenAskFault : AskFault → Type 0
IsOpenAskFault (Refused why) = Unit {0}
IsOpenAskFault (Broken why) = IsFileFault why

-- the piece of the answer of a checked query over these documents
abbrev pub IsAnswerOver : RuleKind → List Told → List (List ℕ) → Shown → CheckedTree → List Document → Plain → Type 0
IsAnswerOver rule priors names shown q docs piece = (answer : Option (List ℕ)) × IsAnswerText rule priors names shown q docs answer × (piece ≡ answer_piece answer)
