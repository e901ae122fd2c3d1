-- The priors of a run. This is the project's own.
use Rattle.std.specs.Prelude.{◌⊎◌, ℕ, false, true, List, [], ◌∷◌, ◌++◌, Contains, drop, length, map, unwrap_or}
use Rattle.std.specs.List.{repeat}
use Rattle.ri_base.specs.Faults.{IsOutside}
use Rattle.ri_base.specs.Ratio.{Ratio}
use Rattle.ri_base.specs.declared.seg_fault.SegFault.{SegFault}
use Rattle.store_ends.specs.Files.{Files}
use Rattle.belief_nodes.specs.Priors.{Prior, no_prior}
use Rattle.manifest.specs.Priors.{PriorTable, Row}
use Rattle.manifest.specs.declared.manifest.PriorEntry.{PriorEntry}
use Rattle.repository.specs.Priors.{IsPriorFault}
use Rattle.repository.specs.Stands.{Prior as Kept}

-- what `#prior(length)` tells: 1/4 of a document of fewer than 100 tokens, 1/2 of one of fewer than 1,000, and else 1
abbrev pub length_prior : Prior
length_prior = record {
  rows = [];
  steps = (100, record { p = 1; q = 2 }) ∷ (1000, record { p = 1; q = 1 }) ∷ [];
  rest = record { p = 1; q = 4 };
  is_table = false;
}

-- by their numbers: eight tables that have no rows, and the prior of lengths
abbrev pub run_priors : List Prior
run_priors = repeat 8 (no_prior ∷ []) ++ length_prior ∷ []

-- ---- the priors of a collection

abbrev pub row_told : Row → List ℕ × Ratio
row_told r = (r.docno, r.belief)

-- a table of rows; a document without one has 1, where no other fraction is given
abbrev pub table_prior : List (List ℕ × Ratio) → Ratio → Prior
table_prior rows rest = record { rows = rows; steps = []; rest = rest; is_table = true }

-- what a prior that is kept tells
abbrev pub kept_prior : PriorTable → Prior
kept_prior table = table_prior (map row_told table.rows) (unwrap_or table.rest (record { p = 1; q = 1 }))

-- by their numbers: those of a collection, of which there are at most eight, tables without rows, and the prior of lengths
abbrev pub priors_with : List Kept → List Prior
priors_with kept = map (λ (p : Kept). kept_prior p.table) kept ++ drop (length kept) run_priors

-- their names
abbrev pub names_with : List Kept → List (List ℕ)
names_with kept = map (λ (p : Kept). p.name) kept

-- the store or memory is to blame, or the file of one of these priors
abbrev pub IsPriorsFault : Files → List PriorEntry → SegFault → Type 0
IsPriorsFault files priors fault = IsOutside fault ⊎ ((e : PriorEntry) × Contains priors e × IsPriorFault files e.number fault)
