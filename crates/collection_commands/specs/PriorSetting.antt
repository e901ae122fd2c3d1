-- What `prior` does: the rows of an input become those of the prior of a name.
use Rattle.std.specs.Prelude.{◌≡◌, ◌⊎◌, ℕ, Bool, true, false, not, ◌&&◌, List, [], ◌∷◌, ◌++◌, codes, length, map, nat_le, if◌then◌else◌, Option, None, Some}
use Rattle.std.specs.Fmt.{decimal}
use Rattle.std.specs.List.{list_any}
use Rattle.std.specs.List.Sorted.{IsPermutation}
use Rattle.ri_base.specs.declared.limits.TheConstants.{MAX_PRIORS}
use Rattle.store_ends.specs.Files.{Files, Leaves}
use Rattle.command_pieces.specs.CommandFaults.{IsBrokenBy}
use Rattle.command_pieces.specs.Pieces.{Finished, Piece, StandsAlong, some_refused}
use Rattle.command_pieces.specs.Written.{told_piece, unflushed, with_flush}
use Rattle.command_pieces.specs.declared.command_fault.CommandFault.{CommandFault}
use Rattle.command_pieces.specs.declared.command_fault.CommandFault.TheVariants.{Memory, Read}
use Rattle.manifest.specs.Entries.{length_name}
use Rattle.manifest.specs.PriorFits.{IsPrior}
use Rattle.manifest.specs.Priors.{PriorTable}
use Rattle.prior_lines.specs.Rows.{Kept, prior_row, prior_rows, refusals}
use Rattle.refusals.specs.Lines.{refusal_piece}
use Rattle.refusals.specs.declared.refusal.Refusal.{Refusal}
use Rattle.refusals.specs.declared.refusal.Refusal.TheVariants.{Fixed, PriorsFull}
use Rattle.repository.specs.Priors.{AreStored, is_full, is_same, with_prior}
use Rattle.repository.specs.RealLimits.{StandsFor}
use Rattle.repository.specs.Stands.{Collection, Prior}
use Rattle.repository.specs.States.{State}
use Rattle.collection_commands.specs.RowRefusals.{row_pieces}

-- the rows that are kept, by rising docno
pub record IsTableOf (kept : Kept) (table : PriorTable) : Type 0 where
  pub rest : table.rest ≡ kept.rest
  pub rows : IsPermutation (map prior_row kept.rows) table.rows
  pub form : IsPrior table

-- a prior of the collection has this name
abbrev pub has_prior : Collection → List ℕ → Bool
has_prior c name = list_any (λ (p : Prior). is_same name p.name) c.priors

-- why the name is refused, where it is: that of lengths has no rows of its own, and there is no room for a ninth
abbrev pub name_refusal : Collection → List ℕ → Option Refusal
name_refusal c name =
    if is_same name length_name then Some (Fixed name)
    else if not (has_prior c name) && nat_le MAX_PRIORS (length c.priors) then Some (PriorsFull name)
    else None

-- prior NAME ROWS
abbrev pub prior_text : List ℕ → ℕ → List ℕ
prior_text name rows = codes "prior " ++ name ++ 32 ∷ decimal rows ++ 10 ∷ []

-- the piece at which the prior gets its rows
abbrev pub setting_pieces : Collection → List ℕ → PriorTable → List (Piece Collection)
setting_pieces c name table = with_flush (with_prior c name table) (told_piece (prior_text name (length table.rows))) ∷ []

-- what is written of the input, and then the prior has its rows
abbrev pub set_pieces : Collection → List ℕ → List ℕ → PriorTable → List (Piece Collection)
set_pieces c name bytes table = unflushed (row_pieces (refusals bytes)) ++ setting_pieces c name table

-- The rows of a prior of this name may be set: it isn't that of the lengths, and there is room for it.
pub record MaySet (s : State) (name : List ℕ) : Type 0 where
  pub usable : s.usable ≡ true
  pub stored : AreStored s
  pub named : is_same name length_name ≡ false
  pub room : is_full s.priors name ≡ false

-- what is written of a name that is refused
abbrev pub name_pieces : Refusal → List (Piece Collection)
name_pieces why = unflushed (refusal_piece why ∷ [])

-- These are all pieces of `prior`, by why its name is refused. Where it is the input isn't looked at.
abbrev pub ArePriorPieces : Option Refusal → Collection → List ℕ → List ℕ → List (Piece Collection) → Type 0
ArePriorPieces None c name bytes pieces = (table : PriorTable) × IsTableOf (prior_rows bytes) table × (pieces ≡ set_pieces c name bytes table)
ArePriorPieces (Some why) c name bytes pieces = pieces ≡ name_pieces why

-- These are they. Where the source failed there is none, and where memory was wanting there may be none: the input wasn't read to its
-- end by then, or its rows weren't ordered yet.
abbrev pub AreBegun : CommandFault → Option Refusal → Collection → List ℕ → List ℕ → List (Piece Collection) → Type 0
AreBegun Read why c name bytes pieces = pieces ≡ []
AreBegun Memory why c name bytes pieces = (pieces ≡ []) ⊎ ArePriorPieces why c name bytes pieces
AreBegun fault why c name bytes pieces = ArePriorPieces why c name bytes pieces

-- All pieces of `prior` are done, and some of them refuse, or none does.
abbrev pub IsPriorDone : Option Refusal → Bool → Collection → List ℕ → List ℕ → Option (List ℕ) → Option (List ℕ) → Option Files → Type 0
IsPriorDone why refused c name bytes before now told =
    (pieces : List (Piece Collection)) × ArePriorPieces why c name bytes pieces × (some_refused pieces ≡ refused) × Finished StandsFor c pieces before now told

-- `prior` is broken off.
abbrev pub IsPriorBroken : Option Refusal → CommandFault → Collection → List ℕ → List ℕ → Option (List ℕ) → Option (List ℕ) → Option Files → Type 0
IsPriorBroken why fault c name bytes before now told =
    (pieces : List (Piece Collection)) × AreBegun fault why c name bytes pieces × IsBrokenBy fault StandsFor c pieces before now told

-- what a stop may leave of the files while `prior` goes on
abbrev pub PriorStops : Option Refusal → Collection → List ℕ → List ℕ → (ℕ → Files → Type 0) → (ℕ → Files → Type 0) → Type 0
PriorStops why c name bytes past since =
    (pieces : List (Piece Collection)) × ((pieces ≡ []) ⊎ ArePriorPieces why c name bytes pieces) × Leaves past since (StandsAlong StandsFor c pieces)
