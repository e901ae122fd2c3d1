-- What is read of a prior's file.
use Rattle.std.proofs.Common.{◌≡◌, ◌≤◌, ◌<◌, ℕ, zero, suc, get_or, List, [], ◌∷◌, length, Option, Some, None, Result, Ok, Err, refl, sym, ap, subst, ◌∙◌, arith}
use Rattle.std.specs.List.{AllZip}
use Rattle.std.proofs.lemmas.Bool.{leb-true}
use Rattle.std.proofs.lemmas.List.{get_or_default}
use Rattle.ri_base.specs.FieldAnswers.{AnswersPart}
use Rattle.ri_base.specs.Faults.{IsOutside}
use Rattle.ri_base.specs.declared.limits.TheConstants.{MAX_PRIORS}
use Rattle.ri_base.specs.declared.seg_fault.FileName.TheVariants as names
use Rattle.ri_base.specs.declared.seg_fault.PartName.TheVariants as parts
use Rattle.ri_base.specs.declared.seg_fault.SegFault.{SegFault}
use Rattle.ri_base.specs.declared.seg_fault.SegFault.TheVariants.{Malformed, Missing, Store, Memory}
use Rattle.store_ends.specs.Files.{File, Files}
use Rattle.manifest.specs.Listing.{IsListing}
use Rattle.manifest.specs.PriorFits.{IsPrior}
use Rattle.manifest.specs.Priors.{PriorTable, prior_file, prior_text}
use Rattle.manifest.specs.declared.manifest.PriorEntry.{PriorEntry}
use Rattle.manifest.proofs.ListingLaws.{listing-of}
use Rattle.manifest.proofs.PriorLaws.{prior_again}
use Rattle.repository.specs.Names.{prior_name}
use Rattle.repository.specs.Priors.{IsPriorFault}
use Rattle.repository.specs.Stands.{IsPriorListed, IsPriorRead, Prior}
use Rattle.repository.specs.States.{IsNumbered, State}
use Rattle.repository.proofs.ManifestLemmas.{some_same}
use Rattle.repository.proofs.PartLemmas.{one-read}

pub rows-read : (told : Option Files) (f : Files) (e : PriorEntry) (bytes : List ℕ) (t : PriorTable) → told ≡ Some f → Some bytes ≡ (f (prior_name e.number)).read → (bytes ≡ prior_text t) × IsPrior t
    → IsPriorRead told e (record { name = e.name; table = t })
rows-read told f e bytes t is file read = record {
  files = f;
  is_told = is;
  name = refl;
  file = sym file ∙ ap (λ (b : List ℕ). Some b) read.0;
  form = read.1;
}

pub fault-read : (f : Files) (n : ℕ) (bytes : List ℕ) (fault : SegFault) → Some bytes ≡ (f (prior_name n)).read
    → AnswersPart {X = PriorTable} (λ t. t) (Err fault) (prior_file bytes) (names.Prior n) parts.Prior (length bytes) → IsPriorFault f n fault
fault-read f n bytes (Malformed file part place) there h = (bytes, sym there, h)
fault-read f n bytes (Missing file) there h = absurd h
fault-read f n bytes Store there h = tt
fault-read f n bytes Memory there h = tt

pub fault-outside : (f : Files) (n : ℕ) (fault : SegFault) → IsOutside fault → IsPriorFault f n fault
fault-outside f n (Malformed file part place) h = absurd h
fault-outside f n (Missing file) h = absurd h
fault-outside f n Store h = tt
fault-outside f n Memory h = tt

-- ---- one table

table-same : (a b : PriorTable) → IsPrior a → IsPrior b → prior_text a ≡ prior_text b → a ≡ b
table-same a b fit other same = one-read (prior_file (prior_text b)) a b (ap prior_file (sym same) ∙ prior_again a fit) (prior_again b other)

-- what was put is read
pub prior-read : (told : Option Files) (e : PriorEntry) (p : Prior) → IsPriorListed told e p → IsPriorRead told e p
prior-read told e p listed = record { files = listed.files; is_told = listed.is_told; name = listed.name; file = ap (λ (f : File). f.read) listed.file; form = listed.form }

-- one table is read of the file of an entry
pub one-table : (told : Option Files) (e : PriorEntry) (a b : Prior) → IsPriorRead told e a → IsPriorRead told e b → a.table ≡ b.table
one-table told e a b x y =
    let files : x.files ≡ y.files = some_same _ _ (sym x.is_told ∙ y.is_told) in
    let text : prior_text a.table ≡ prior_text b.table = some_same _ _ (sym x.file ∙ ap (λ (f : Files). (f (prior_name e.number)).read) files ∙ y.file) in
    table-same a.table b.table x.form y.form text

-- the file of an entry of which rows are read isn't refused
pub honest-rows : (told : Option Files) (f : Files) (e : PriorEntry) (p : Prior) (fault : SegFault) → IsPriorRead told e p → told ≡ Some f → IsPriorFault f e.number fault → IsOutside fault
honest-rows told f e p (Malformed file part place) has is bad =
    let files : has.files ≡ f = some_same _ _ (sym has.is_told ∙ is) in
    let bytes : bad.0 ≡ prior_text p.table = some_same _ _ (sym bad.1 ∙ ap (λ (g : Files). (g (prior_name e.number)).read) (sym files) ∙ has.file) in
    let read : prior_file bad.0 ≡ Ok p.table = ap prior_file bytes ∙ prior_again p.table has.form in
    absurd (not_both p.table bad.2.2 (prior_file bad.0) read bad.2.3)
  where
    not_both : (x : PriorTable) (e : ℕ) (r : Result PriorTable ℕ) → r ≡ Ok x → r ≡ Err e → ⊥
    not_both x e r a b = cc
honest-rows told f e p (Missing file) has is bad =
    let files : has.files ≡ f = some_same _ _ (sym has.is_told ∙ is) in
    let there : Some (prior_text p.table) ≡ None = sym has.file ∙ ap (λ (g : Files). (g (prior_name e.number)).read) files ∙ bad.1 in
    absurd cc
honest-rows told f e p Store has is bad = tt
honest-rows told f e p Memory has is bad = tt

-- ---- the prior at a place

pub same-entry : (es : List PriorEntry) (i : ℕ) (x e : PriorEntry) → i < length es → x ≡ get_or es i x → e ≡ get_or es i e → x ≡ e
same-entry es i x e below at_x at_e = at_x ∙ get_or_default es i x e below ∙ sym at_e

pub prior-at : (told : Option Files) (es : List PriorEntry) (ps : List Prior) (i : ℕ) (e : PriorEntry) (p : Prior) → AllZip (IsPriorListed told) es ps → i < length es → e ≡ get_or es i e → p ≡ get_or ps i p
    → IsPriorListed told e p
prior-at told [] ps i e p listed below at_e at_p = absurd (omega (arith, below))
prior-at told (x ∷ es) [] i e p listed below at_e at_p = absurd listed
prior-at told (x ∷ es) (q ∷ ps) zero e p listed below at_e at_p = subst (λ (y : PriorEntry). IsPriorListed told y p) (sym at_e) (subst (IsPriorListed told x) (sym at_p) listed.0)
prior-at told (x ∷ es) (q ∷ ps) (suc i) e p listed below at_e at_p = prior-at told es ps i e p listed.1 (omega (arith, below)) at_e at_p

-- some prior stands at each place
pub some-prior : (told : Option Files) (es : List PriorEntry) (ps : List Prior) (i : ℕ) (e : PriorEntry) → AllZip (IsPriorListed told) es ps → i < length es → e ≡ get_or es i e
    → (p : Prior) × IsPriorListed told e p
some-prior told [] ps i e listed below at = absurd (omega (arith, below))
some-prior told (x ∷ es) [] i e listed below at = absurd listed
some-prior told (x ∷ es) (p ∷ ps) zero e listed below at = (p, subst (λ (y : PriorEntry). IsPriorListed told y p) (sym at) listed.0)
some-prior told (x ∷ es) (p ∷ ps) (suc i) e listed below at = some-prior told es ps i e listed.1 (omega (arith, below)) at

-- a repository that may be used has few
pub few-kept : (s : State) → IsNumbered s → length s.priors ≤ MAX_PRIORS
few-kept s n =
    let old = subst (λ (ps : List PriorEntry). IsListing n.list.next n.list.segments n.list.stale ps) n.priors_are (listing-of n.list n.form) in
    leb-true (length s.priors) MAX_PRIORS old.few_priors
