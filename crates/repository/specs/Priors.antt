-- How a prior is set, and why its rows can't be read.
use Rattle.std.specs.Prelude.{◌≡◌, ◌&&◌, ℕ, Bool, true, not, List, [], ◌∷◌, Option, Some, None, Err, length, nat_le, if◌then◌else◌}
use Rattle.std.specs.Bool.{nat_eq}
use Rattle.std.specs.Cmp.Lexicographic.{pointwise}
use Rattle.std.specs.List.{All, list_any}
use Rattle.ri_base.specs.FieldAnswers.{AnswersPart}
use Rattle.ri_base.specs.declared.limits.TheConstants.{MAX_PRIORS}
use Rattle.ri_base.specs.declared.seg_fault.FileName.TheVariants as names
use Rattle.ri_base.specs.declared.seg_fault.PartName.TheVariants as parts
use Rattle.ri_base.specs.declared.seg_fault.SegFault.{SegFault}
use Rattle.ri_base.specs.declared.seg_fault.SegFault.TheVariants.{Malformed, Missing, Store, Memory}
use Rattle.store_ends.specs.Files.{Files}
use Rattle.manifest.specs.Priors.{PriorTable, prior_file}
use Rattle.manifest.specs.declared.manifest.PriorEntry.{PriorEntry}
use Rattle.repository.specs.Entries.{IsOnDisk}
use Rattle.repository.specs.Names.{prior_name}
use Rattle.repository.specs.Numbers.{next_after}
use Rattle.repository.specs.Stale.{with_old}
use Rattle.repository.specs.Stands.{Collection, Prior}
use Rattle.repository.specs.States.{State}

-- ---- a prior is set

-- all documents are in files
abbrev pub AreStored : State → Type 0
AreStored s = All (λ m. IsOnDisk m.source) s.held.parts.closed × (s.held.parts.filling ≡ [])

abbrev pub is_same : List ℕ → List ℕ → Bool
is_same name other = pointwise nat_eq name other

-- priors with these rows for the one of this name; a new one stands behind the others
abbrev pub with_rows : List Prior → List ℕ → PriorTable → List Prior
with_rows [] name table = record { name = name; table = table } ∷ []
with_rows (p ∷ ps) name table = if is_same name p.name then record { name = p.name; table = table } ∷ ps else p ∷ with_rows ps name table

abbrev pub with_prior : Collection → List ℕ → PriorTable → Collection
with_prior c name table = record { live = c.live; documents = c.documents; tokens = c.tokens; priors = with_rows c.priors name table }

-- entries with the file of this number for the prior of this name
abbrev pub with_entry : List PriorEntry → List ℕ → ℕ → List PriorEntry
with_entry [] name n = record { name = name; number = n } ∷ []
with_entry (e ∷ es) name n = if is_same name e.name then record { name = e.name; number = n } ∷ es else e ∷ with_entry es name n

-- the number of its file
abbrev pub number_named : List PriorEntry → List ℕ → Option ℕ
number_named [] name = None
number_named (e ∷ es) name = if is_same name e.name then Some e.number else number_named es name

abbrev pub is_named : List PriorEntry → List ℕ → Bool
is_named es name = list_any (λ e. is_same name e.name) es

-- the name is new, and there are as many priors as there may be
abbrev pub is_full : List PriorEntry → List ℕ → Bool
is_full es name = not (is_named es name) && nat_le MAX_PRIORS (length es)

-- the prior of this name has the file of this number, a new one; the one that it had is stale
abbrev pub prior_set : State → List ℕ → ℕ → State
prior_set s name n = record { held = s.held; next = next_after s.next; stale = with_old s.stale (number_named s.priors name); priors = with_entry s.priors name n; merge = s.merge; usable = true }

-- ---- its rows are read

-- the file of the prior with this number isn't there, or the bytes that are read of it are refused so
abbrev pub IsPriorFault : Files → ℕ → SegFault → Type 0
IsPriorFault files n (Malformed file part place) =
    (bytes : List ℕ) × ((files (prior_name n)).read ≡ Some bytes) × AnswersPart {X = PriorTable} (λ t. t) (Err (Malformed file part place)) (prior_file bytes) (names.Prior n) parts.Prior (length bytes)
IsPriorFault files n (Missing file) = (file ≡ names.Prior n) × ((files (prior_name n)).read ≡ None)
IsPriorFault files n Store = Unit {0}
IsPriorFault files n Memory = Unit {0}
