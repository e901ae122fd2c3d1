-- What a question over the files of a store is answered, and why it isn't.
use Rattle.std.proofs.Common.{◌≡◌, ℕ, List, [], ◌∷◌, Option, None, Some, Result, Ok, Err, map, refl, sym, ap, subst, ◌∙◌}
use Rattle.std.specs.Prelude.{IfErr, IsTrue, OnOk, is_some}
use Rattle.std.specs.List.{AllZip}
use Rattle.ri_base.specs.Documents.{Document}
use Rattle.ri_base.specs.declared.seg_fault.SegFault.{SegFault}
use Rattle.ri_base.specs.declared.seg_fault.SegFault.TheVariants as files
use Rattle.smoothing.specs.declared.rule.RuleKind.TheVariants.{Dirichlet}
use Rattle.store_ends.specs.Files.{Files}
use Rattle.query_check.specs.Check.{CheckedTree}
use Rattle.query_reader.specs.QueryText.{query_text}
use Rattle.belief_nodes.specs.Priors.{Prior}
use Rattle.command_pieces.specs.CommandFaults.{of_files}
use Rattle.command_pieces.specs.Written.{Plain}
use Rattle.command_pieces.specs.declared.command_fault.CommandFault.{CommandFault}
use Rattle.command_pieces.specs.declared.command_fault.CommandFault.TheVariants as fault
use Rattle.manifest.specs.declared.manifest.PriorEntry.{PriorEntry}
use Rattle.repository.specs.Names.{manifest_name}
use Rattle.repository.specs.Stands.{Collection, IsPriorListed, Prior as Kept}
use Rattle.desk.specs.Priors.{names_with, priors_with}
use Rattle.desk.specs.Shown.{Shown}
use Rattle.collection_commands.proofs.CauseLemmas.{of-more}
use Rattle.indri_app.specs.Asked.{IfRefused, IsAnswerOver, IsAskBroken, IsAskFault, IsAskWant, IsAsked, IsBrokenOver, IsFaultOver, IsOpenAskFault, ask_fault}
use Rattle.indri_app.specs.Command.{IsQuery, query_refusal}
use Rattle.indri_app.specs.Opened.{IsAbsentFault, IsFileFault, IsOpenFault, file_causes, open_causes}
use Rattle.indri_app.specs.Texts.{IsTextFault}
use Rattle.indri_app.specs.declared.question.AskFault.{AskFault}
use Rattle.indri_app.specs.declared.question.AskFault.TheVariants.{Broken, Refused}
use Rattle.indri_app.proofs.OpeningLemmas.{file-of, store-of_files}
use Rattle.indri_app.specs.declared.texts.TextFault.{TextFault}
use Rattle.indri_app.specs.declared.texts.TextFault.TheVariants as text

-- ---- the names of priors

pub names-listed : (told : Option Files) (es : List PriorEntry) (ps : List Kept) → AllZip (IsPriorListed told) es ps → map (λ (e : PriorEntry). e.name) es ≡ names_with ps
names-listed told [] [] all = refl
names-listed told [] (p ∷ ps) all = absurd all
names-listed told (e ∷ es) [] all = absurd all
names-listed told (e ∷ es) (p ∷ ps) all = ap (λ (n : List ℕ). n ∷ map (λ (d : PriorEntry). d.name) es) (sym all.0.name) ∙ ap (λ (ns : List (List ℕ)). p.name ∷ ns) (names-listed told es ps all.1)

-- ---- by the manifest

is-there : (o : Option (List ℕ)) → IsTrue (is_some o) → o ≡ None → ⊥
is-there None there none = absurd cc
is-there (Some bytes) there none = absurd cc

-- it isn't opened
pub opened-over : (f : Files) (why : CommandFault) → IsOpenFault why → (why ≡ fault.NoRepository → (f manifest_name).read ≡ None) → ((f manifest_name).read ≡ None → IsAbsentFault why) → IsBrokenOver f why
opened-over f fault.Read only absent without = only
opened-over f fault.Write only absent without = only
opened-over f fault.Store only absent without = tt
opened-over f (fault.Malformed file part place) only absent without = λ none. without none
opened-over f (fault.Missing file) only absent without = λ none. without none
opened-over f fault.NoRepository only absent without = absent refl
opened-over f fault.Exists only absent without = only
opened-over f fault.Memory only absent without = tt

-- ---- the repository is open, and a file of it isn't read

file-over : (f : Files) (why : CommandFault) → IsFileFault why → IsTrue (is_some (f manifest_name).read) → IsBrokenOver f why
file-over f fault.Read only there = only
file-over f fault.Write only there = only
file-over f fault.Store only there = tt
file-over f (fault.Malformed file part place) only there = λ none. is-there (f manifest_name).read there none
file-over f (fault.Missing file) only there = λ none. is-there (f manifest_name).read there none
file-over f fault.NoRepository only there = absurd only
file-over f fault.Exists only there = only
file-over f fault.Memory only there = tt

file-open : (why : CommandFault) → IsFileFault why → IsOpenFault why
file-open = of-more file_causes open_causes refl

pub files-over : (f : Files) (why : SegFault) → IsTrue (is_some (f manifest_name).read) → IsBrokenOver f (of_files why)
files-over f why there = file-over f (of_files why) (file-of why) there

pub broken-store : (answer : Result Plain AskFault) (told : CommandFault) (why : SegFault) → told ≡ of_files why → answer ≡ Err (Broken told) → answer ≡ Err (Broken fault.Store) → why ≡ files.Store
broken-store answer told why is e store = let one : told ≡ fault.Store = cc in store-of_files why (sym is ∙ one)

-- ---- the text isn't read

pub text-refused : (c : Collection) (asked : List ℕ) (names : List (List ℕ)) (why : TextFault) → names ≡ names_with c.priors → IsTextFault (query_refusal names (query_text asked)) why → IsAskFault c asked (ask_fault why)
text-refused c asked names (text.Refused refusal) same is = subst (λ (ns : List (List ℕ)). query_refusal ns (query_text asked) ≡ Some refusal) same is
text-refused c asked names text.Memory same is = tt

pub text-want : (why : TextFault) → IsAskWant (ask_fault why)
text-want (text.Refused refusal) = tt
text-want text.Memory = tt

pub text-only : (why : TextFault) → IsOpenAskFault (ask_fault why)
text-only (text.Refused refusal) = tt
text-only text.Memory = tt

pub text-not_store : (why : TextFault) → ask_fault why ≡ Broken fault.Store → ⊥
text-not_store (text.Refused refusal) e = absurd cc
text-not_store text.Memory e = absurd cc

-- ---- what an open repository answers

pub answer-over : (f : Files) (answer : Result Plain AskFault) → IfErr answer IsOpenAskFault → IsTrue (is_some (f manifest_name).read) → IfErr answer (IsFaultOver f)
answer-over f (Ok piece) only there = tt
answer-over f (Err (Refused why)) only there = λ none. is-there (f manifest_name).read there none
answer-over f (Err (Broken why)) only there = file-over f why only there

pub answer-only : (answer : Result Plain AskFault) → IfErr answer IsOpenAskFault → IfErr answer IsAskBroken
answer-only (Ok piece) only = tt
answer-only (Err (Refused why)) only = tt
answer-only (Err (Broken why)) only = file-open why only

pub answer-intact : (P : Type 0) (answer : Result Plain AskFault) → P → OnOk answer P
answer-intact P (Ok piece) p = p
answer-intact P (Err why) p = tt

pub answer-intact_refused : (P : Type 0) (answer : Result Plain AskFault) → P → IfErr answer (λ why. IfRefused why P)
answer-intact_refused P (Ok piece) p = tt
answer-intact_refused P (Err (Refused why)) p = p
answer-intact_refused P (Err (Broken why)) p = tt

-- ---- it is answered

pub asked-of : (c : Collection) (asked : List ℕ) (mu : ℕ) (shown : Shown) (priors : List Prior) (names : List (List ℕ)) (docs : List Document) (q : CheckedTree) (piece : Plain)
    → priors ≡ priors_with c.priors → names ≡ names_with c.priors → docs ≡ c.live → IsQuery names asked q → IsAnswerOver (Dirichlet mu) priors names shown q docs piece → IsAsked c asked mu shown piece
asked-of c asked mu shown priors names docs q piece same_priors same_names same_docs is over = (
  q,
  subst (λ (ns : List (List ℕ)). IsQuery ns asked q) same_names is,
  subst (λ (ds : List Document). IsAnswerOver (Dirichlet mu) (priors_with c.priors) (names_with c.priors) shown q ds piece) same_docs
      (subst (λ (ns : List (List ℕ)). IsAnswerOver (Dirichlet mu) (priors_with c.priors) ns shown q docs piece) same_names
      (subst (λ (ps : List Prior). IsAnswerOver (Dirichlet mu) ps names shown q docs piece) same_priors over)),
)
