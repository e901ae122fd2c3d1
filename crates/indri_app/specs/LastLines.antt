-- The last line of a run that is broken off, and its status.
use Rattle.std.specs.Prelude.{◌≡◌, ◌⊎◌, ℕ, List, [], ◌∷◌, ◌++◌, Option, None, Some, codes}
use Rattle.std.specs.Fmt.{decimal}
use Rattle.ri_base.specs.declared.seg_fault.FileName.{FileName}
use Rattle.ri_base.specs.declared.seg_fault.FileName.TheVariants as file
use Rattle.ri_base.specs.declared.seg_fault.PartName.{PartName}
use Rattle.ri_base.specs.declared.seg_fault.PartName.TheVariants as part
use Rattle.command_pieces.specs.Lines.{WritesLine}
use Rattle.command_pieces.specs.declared.command_fault.CommandFault.{CommandFault}
use Rattle.command_pieces.specs.declared.command_fault.CommandFault.TheVariants as fault
use Rattle.disk_index.specs.Names.{segment_name}
use Rattle.repository.specs.Names.{manifest_name, prior_name}
use Rattle.indri_app.specs.declared.status.Status.{Status}
use Rattle.indri_app.specs.declared.status.Status.TheVariants.{Exists, Malformed, Memory, NoRepository, ReadFault, StoreFault, WriteFault}

unfoldable pub read_line : List ℕ
read_line = codes "fault read\n"

unfoldable pub store_line : List ℕ
store_line = codes "fault store\n"

unfoldable pub absent_line : List ℕ
absent_line = codes "norepository\n"

unfoldable pub exists_line : List ℕ
exists_line = codes "exists\n"

abbrev pub file_text : FileName → List ℕ
file_text file.Manifest = manifest_name
file_text (file.Segment n) = segment_name n
file_text (file.Prior n) = prior_name n

abbrev pub part_text : PartName → List ℕ
part_text part.Manifest = codes "Manifest"
part_text part.Header = codes "Header"
part_text part.Documents = codes "Documents"
part_text part.Dictionary = codes "Dictionary"
part_text part.Block = codes "Block"
part_text part.Prior = codes "Prior"

-- malformed FILE PART PLACE
abbrev pub malformed_line : FileName → PartName → ℕ → List ℕ
malformed_line f p place = codes "malformed " ++ file_text f ++ 32 ∷ part_text p ++ 32 ∷ decimal place ++ 10 ∷ []

-- missing FILE
abbrev pub missing_line : FileName → List ℕ
missing_line f = codes "missing " ++ file_text f ++ 10 ∷ []

-- the last line, if there is one
abbrev pub last_line : CommandFault → Option (List ℕ)
last_line fault.Read = Some read_line
last_line fault.Write = None
last_line fault.Store = Some store_line
last_line (fault.Malformed f p place) = Some (malformed_line f p place)
last_line (fault.Missing f) = Some (missing_line f)
last_line fault.NoRepository = Some absent_line
last_line fault.Exists = Some exists_line
last_line fault.Memory = None

abbrev pub status_of : CommandFault → Status
status_of fault.Read = ReadFault
status_of fault.Write = WriteFault
status_of fault.Store = StoreFault
status_of (fault.Malformed f p place) = Malformed
status_of (fault.Missing f) = Malformed
status_of fault.NoRepository = NoRepository
status_of fault.Exists = Exists
status_of fault.Memory = Memory

-- A line is written, and the status says why, even where the sink failed at it; or there was no memory for it, and nothing is written.
abbrev pub IsLined : List ℕ → Status → Status → Option (List ℕ) → Option (List ℕ) → ℕ → ℕ → Type 0
IsLined line why status before now count_before count_now =
    ((status ≡ why) × WritesLine before now line count_before count_now) ⊎ ((status ≡ Memory) × (now ≡ before))

abbrev pub EndsWith : Option (List ℕ) → Status → Status → Option (List ℕ) → Option (List ℕ) → ℕ → ℕ → Type 0
EndsWith None why status before now count_before count_now = (status ≡ why) × (now ≡ before)
EndsWith (Some line) why status before now count_before count_now = IsLined line why status before now count_before count_now

-- A run that is broken off ends with its status, and with its last line, if it has one.
abbrev pub IsClosed : CommandFault → Status → Option (List ℕ) → Option (List ℕ) → ℕ → ℕ → Type 0
IsClosed why status before now count_before count_now = EndsWith (last_line why) (status_of why) status before now count_before count_now
