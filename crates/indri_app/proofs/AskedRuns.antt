-- A run of `query` or `explain`.
use Rattle.std.proofs.Common.{◌≡◌, ◌≤◌, inl, inr, ℕ, List, [], ◌∷◌, Option, None, Some, true, refl, sym, ap, subst, ◌∙◌}
use Rattle.std.specs.Prelude.{is_some}
use Rattle.std.specs.Option.{IfSome}
use Rattle.store_ends.specs.Files.{Files}
use Rattle.command_words.specs.Table.{Asks, Question, add, create, delete, explain, gen, merge, prior, query, scan, session}
use Rattle.query_reader.specs.QueryText.{query_text}
use Rattle.query_refusals.specs.Lines.{line_of}
use Rattle.query_refusals.specs.declared.refusal.QueryRefusal.{QueryRefusal}
use Rattle.command_pieces.specs.CommandFaults.{IsDamage}
use Rattle.command_pieces.specs.Written.{Plain, unflushed}
use Rattle.command_pieces.specs.declared.command_fault.CommandFault.{CommandFault}
use Rattle.command_pieces.specs.declared.command_fault.CommandFault.TheVariants as fault
use Rattle.repository.specs.Names.{manifest_name}
use Rattle.repository.specs.RealLimits.{StandsFor}
use Rattle.repository.specs.Stands.{Collection}
use Rattle.desk.specs.Priors.{names_with}
use Rattle.desk.specs.Shown.{Shown, explanation, shown_for}
use Rattle.indri_app.specs.Asked.{IsAsked, IsBrokenOver, IsIntact, IsIntactWithPriors}
use Rattle.indri_app.specs.Command.{AreAnswer, ArePieces, IsAskedBy, MakesRepository, NeedsRepository, ReadsBlocks, ShowsInOrder, query_refusal, text_refusal}
use Rattle.indri_app.specs.LastLines.{IsClosed}
use Rattle.indri_app.specs.Opened.{IsAbsentFault, IsFileFault}
use Rattle.indri_app.specs.Runs.{RunsTo, Tells, WritesDamage, WritesDamageOf, WritesBy}
use Rattle.indri_app.specs.declared.status.Status.{Status}
use Rattle.indri_app.specs.declared.status.Status.TheVariants as status
use Rattle.indri_app.proofs.Closing.{closed, file-begun}
use Rattle.indri_app.proofs.PlainRuns.{plain-runs, tells-runs}

-- ---- which words ask so

pub asked-not_making : (asks : Asks) (text : List ℕ) (mu : ℕ) (shown : Shown) → IsAskedBy asks text mu shown → MakesRepository asks → ⊥
asked-not_making (scan t) text mu shown by' makes = makes
asked-not_making create text mu shown by' makes = by'
asked-not_making add text mu shown by' makes = makes
asked-not_making delete text mu shown by' makes = makes
asked-not_making merge text mu shown by' makes = makes
asked-not_making (prior name) text mu shown by' makes = makes
asked-not_making (session m) text mu shown by' makes = makes
asked-not_making (gen count) text mu shown by' makes = by'
asked-not_making (query question) text mu shown by' makes = makes
asked-not_making (explain rank question) text mu shown by' makes = makes

pub asked-not_scan : (asks : Asks) (text : List ℕ) (mu : ℕ) (shown : Shown) (other : List ℕ) → IsAskedBy asks text mu shown → asks ≡ scan other → ⊥
asked-not_scan asks text mu shown other by' e = subst (λ x. IsAskedBy x text mu shown) e by'

pub asked-needs : (asks : Asks) (text : List ℕ) (mu : ℕ) (shown : Shown) → IsAskedBy asks text mu shown → NeedsRepository asks
asked-needs (scan t) text mu shown by' = absurd by'
asked-needs create text mu shown by' = absurd by'
asked-needs add text mu shown by' = absurd by'
asked-needs delete text mu shown by' = absurd by'
asked-needs merge text mu shown by' = absurd by'
asked-needs (prior name) text mu shown by' = absurd by'
asked-needs (session m) text mu shown by' = absurd by'
asked-needs (gen count) text mu shown by' = absurd by'
asked-needs (query question) text mu shown by' = tt
asked-needs (explain rank question) text mu shown by' = tt

pub asked-blocks : (asks : Asks) (text : List ℕ) (mu : ℕ) (shown : Shown) → IsAskedBy asks text mu shown → ReadsBlocks asks
asked-blocks (scan t) text mu shown by' = absurd by'
asked-blocks create text mu shown by' = absurd by'
asked-blocks add text mu shown by' = absurd by'
asked-blocks delete text mu shown by' = absurd by'
asked-blocks merge text mu shown by' = absurd by'
asked-blocks (prior name) text mu shown by' = absurd by'
asked-blocks (session m) text mu shown by' = absurd by'
asked-blocks (gen count) text mu shown by' = absurd by'
asked-blocks (query question) text mu shown by' = tt
asked-blocks (explain rank question) text mu shown by' = tt

pub asked-in_order : (asks : Asks) (c : Collection) (left : Option (List ℕ)) (text : List ℕ) (mu : ℕ) (shown : Shown) → IsAskedBy asks text mu shown → ShowsInOrder asks c left
asked-in_order (scan t) c left text mu shown by' = absurd by'
asked-in_order create c left text mu shown by' = absurd by'
asked-in_order add c left text mu shown by' = absurd by'
asked-in_order delete c left text mu shown by' = absurd by'
asked-in_order merge c left text mu shown by' = absurd by'
asked-in_order (prior name) c left text mu shown by' = absurd by'
asked-in_order (session m) c left text mu shown by' = absurd by'
asked-in_order (gen count) c left text mu shown by' = absurd by'
asked-in_order (query question) c left text mu shown by' = tt
asked-in_order (explain rank question) c left text mu shown by' = tt

pub asked-tells : (asks : Asks) (before now : Option (List ℕ)) (a z : ℕ) (text : List ℕ) (mu : ℕ) (shown : Shown) → IsAskedBy asks text mu shown → WritesDamage before now a z → WritesDamageOf asks before now a z
asked-tells (scan t) before now a z text mu shown by' tells = absurd by'
asked-tells create before now a z text mu shown by' tells = absurd by'
asked-tells add before now a z text mu shown by' tells = absurd by'
asked-tells delete before now a z text mu shown by' tells = absurd by'
asked-tells merge before now a z text mu shown by' tells = absurd by'
asked-tells (prior name) before now a z text mu shown by' tells = absurd by'
asked-tells (session m) before now a z text mu shown by' tells = absurd by'
asked-tells (gen count) before now a z text mu shown by' tells = absurd by'
asked-tells (query question) before now a z text mu shown by' tells = tells
asked-tells (explain rank question) before now a z text mu shown by' tells = tells

-- ---- the answer

answer-as : (c : Collection) (question : Question) (form : Shown) (text : List ℕ) (mu : ℕ) (shown : Shown) (piece : Plain) → question.text ≡ text → question.mu ≡ mu → form ≡ shown → IsAsked c text mu shown piece → AreAnswer c question form (unflushed (piece ∷ []))
answer-as c question form text mu shown piece same_text same_mu same_shown asked =
    let one : IsAsked c question.text mu shown piece = subst (λ t. IsAsked c t mu shown piece) (sym same_text) asked in
    let two : IsAsked c question.text question.mu shown piece = subst (λ m. IsAsked c question.text m shown piece) (sym same_mu) one in
    let three : IsAsked c question.text question.mu form piece = subst (λ s. IsAsked c question.text question.mu s piece) (sym same_shown) two in
    (three.0, three.1, (three.2.0, three.2.1, ap (λ (p : Plain). unflushed (p ∷ [])) three.2.2))

asked-pieces : (told : Option Files) (asks : Asks) (c : Collection) (bytes : List ℕ) (text : List ℕ) (mu : ℕ) (shown : Shown) (piece : Plain) → IsAskedBy asks text mu shown → IsAsked c text mu shown piece → ArePieces told asks c bytes (unflushed (piece ∷ []))
asked-pieces told (scan t) c bytes text mu shown piece by' asked = absurd by'
asked-pieces told create c bytes text mu shown piece by' asked = absurd by'
asked-pieces told add c bytes text mu shown piece by' asked = absurd by'
asked-pieces told delete c bytes text mu shown piece by' asked = absurd by'
asked-pieces told merge c bytes text mu shown piece by' asked = absurd by'
asked-pieces told (prior name) c bytes text mu shown piece by' asked = absurd by'
asked-pieces told (session m) c bytes text mu shown piece by' asked = absurd by'
asked-pieces told (gen count) c bytes text mu shown piece by' asked = absurd by'
asked-pieces told (query question) c bytes text mu shown piece by' asked = answer-as c question (shown_for question) text mu shown piece by'.0 by'.1 by'.2 asked
asked-pieces told (explain rank question) c bytes text mu shown piece by' asked = answer-as c question (explanation rank) text mu shown piece by'.0 by'.1 by'.2 asked

pub asked-runs : (told files : Option Files) (asks : Asks) (c : Collection) (left before now : Option (List ℕ)) (a z : ℕ) (text : List ℕ) (mu : ℕ) (shown : Shown) (piece : Plain) (s : Status) → IsAskedBy asks text mu shown → files ≡ told → StandsFor c told → IsAsked c text mu shown piece
    → WritesBy s (piece ∷ []) before now a z → IfSome left (λ bytes. RunsTo s told asks c bytes before now files a z)
asked-runs told files asks c None before now a z text mu shown piece s by' same stands asked w = tt
asked-runs told files asks c (Some bytes) before now a z text mu shown piece s by' same stands asked w =
    subst (λ f. RunsTo s told asks c bytes before now f a z) (sym same) (plain-runs told asks c bytes before now a z s (piece ∷ []) (asked-pieces told asks c bytes text mu shown piece by' asked) stands w)

-- ---- the text is refused

text-as : (names : List (List ℕ)) (asks : Asks) (text : List ℕ) (mu : ℕ) (shown : Shown) → IsAskedBy asks text mu shown → text_refusal names asks ≡ query_refusal names (query_text text)
text-as names (scan t) text mu shown by' = absurd by'
text-as names create text mu shown by' = absurd by'
text-as names add text mu shown by' = absurd by'
text-as names delete text mu shown by' = absurd by'
text-as names merge text mu shown by' = absurd by'
text-as names (prior name) text mu shown by' = absurd by'
text-as names (session m) text mu shown by' = absurd by'
text-as names (gen count) text mu shown by' = absurd by'
text-as names (query question) text mu shown by' = ap (λ (t : List ℕ). query_refusal names (query_text t)) by'.0
text-as names (explain rank question) text mu shown by' = ap (λ (t : List ℕ). query_refusal names (query_text t)) by'.0

pub refused-runs : (told files : Option Files) (asks : Asks) (c : Collection) (left before now : Option (List ℕ)) (a z : ℕ) (text : List ℕ) (mu : ℕ) (shown : Shown) (why : QueryRefusal) (s : Status) → IsAskedBy asks text mu shown → files ≡ told → StandsFor c told
    → query_refusal (names_with c.priors) (query_text text) ≡ Some why → Tells status.QueryRefused (line_of why) s before now → IfSome left (λ bytes. RunsTo s told asks c bytes before now files a z)
refused-runs told files asks c None before now a z text mu shown why s by' same stands refused tells = tt
refused-runs told files asks c (Some bytes) before now a z text mu shown why s by' same stands refused tells =
    subst (λ f. RunsTo s told asks c bytes before now f a z) (sym same) (tells-runs told asks c bytes before now a z s why (text-as (names_with c.priors) asks text mu shown by' ∙ refused) stands tells)

-- ---- a file isn't read

pub file-runs : (told files : Option Files) (asks : Asks) (c : Collection) (left before now : Option (List ℕ)) (a z : ℕ) (why : CommandFault) (s : Status) → a ≤ a → files ≡ told → StandsFor c told → IsFileFault why → IsClosed why s before now a z
    → IfSome left (λ bytes. RunsTo s told asks c bytes before now files a z)
file-runs told files asks c None before now a z why s h same stands only ends = tt
file-runs told files asks c (Some bytes) before now a z why s h same stands only ends =
    let begun = file-begun why told asks c bytes before before files only refl (subst (λ f. StandsFor c f) (sym same) stands) in
    closed told asks c bytes before files a z why s begun.0 before now a h begun.1 begun.2 ends

-- ---- by the manifest

pub damage-over : (files : Files) (why : CommandFault) → IsDamage why → IsBrokenOver files why → (files manifest_name).read ≡ None → ⊥
damage-over files fault.Read d over none = absurd d
damage-over files fault.Write d over none = absurd d
damage-over files fault.Store d over none = absurd d
damage-over files (fault.Malformed f p place) d over none = over none
damage-over files (fault.Missing f) d over none = over none
damage-over files fault.NoRepository d over none = absurd d
damage-over files fault.Exists d over none = absurd d
damage-over files fault.Memory d over none = absurd d

pub over-absent : (files : Files) (why : CommandFault) → IsBrokenOver files why → (files manifest_name).read ≡ None → IsAbsentFault why
over-absent files fault.Read over none = absurd over
over-absent files fault.Write over none = absurd over
over-absent files fault.Store over none = tt
over-absent files (fault.Malformed f p place) over none = absurd (over none)
over-absent files (fault.Missing f) over none = absurd (over none)
over-absent files fault.NoRepository over none = tt
over-absent files fault.Exists over none = absurd over
over-absent files fault.Memory over none = tt

pub some-of : (o : Option (List ℕ)) → (o ≡ None → ⊥) → is_some o ≡ true
some-of None never = absurd (never refl)
some-of (Some bytes) never = refl

pub intact-of : (told : Option Files) → IsIntactWithPriors told → IsIntact told
intact-of told (limits, (s, opened, priors)) = (limits, (s, opened))

pub tells-not : (line : List ℕ) (s t : Status) (before now : Option (List ℕ)) → Tells status.QueryRefused line s before now → s ≡ t → (t ≡ status.QueryRefused → ⊥) → (t ≡ status.WriteFault → ⊥) → (t ≡ status.Memory → ⊥) → ⊥
tells-not line s t before now tells e refused write memory = elim tells [
  | inl h ↦ refused (sym e ∙ h.0)
  | inr more ↦ elim more [ inl h ↦ write (sym e ∙ h.0) | inr h ↦ memory (sym e ∙ h.0) ]
]
