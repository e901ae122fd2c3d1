-- Why a command over files is broken off, and what is done by then.
use Rattle.std.specs.Prelude.{ℕ, List, Option}
use Rattle.ri_base.specs.declared.seg_fault.SegFault.{SegFault}
use Rattle.ri_base.specs.declared.seg_fault.SegFault.TheVariants as files
use Rattle.store_ends.specs.Files.{Files}
use Rattle.command_pieces.specs.Pieces.{BrokenOff, Piece, StoppedBetween}
use Rattle.command_pieces.specs.declared.command_fault.CommandFault.{CommandFault}
use Rattle.command_pieces.specs.declared.command_fault.CommandFault.TheVariants.{Exists, Malformed, Memory, Missing, NoRepository, Read, Store, Write}
use Rattle.command_pieces.specs.declared.fault.Fault.{Fault}
use Rattle.command_pieces.specs.declared.fault.Fault.TheVariants as items

-- the fault of an end that items are read from or written to
abbrev pub of_items : Fault → CommandFault
of_items items.Read = Read
of_items items.Write = Write
of_items items.Memory = Memory

-- the fault of a call on files
abbrev pub of_files : SegFault → CommandFault
of_files (files.Malformed file part place) = Malformed file part place
of_files (files.Missing file) = Missing file
of_files files.Store = Store
of_files files.Memory = Memory

-- What is done by then, of a command over files that stand for something: only where the sink failed may a front of a piece be
-- written. So it is too where damage of a file is found. Whether there is a manifest is asked before the first piece.
abbrev pub IsBrokenBy : {C : Type 0} → CommandFault → (C → Option Files → Type 0) → C → List (Piece C) → Option (List ℕ) → Option (List ℕ) → Option Files → Type 0
IsBrokenBy Read stands kept pieces before now told = StoppedBetween stands kept pieces before now told
IsBrokenBy Write stands kept pieces before now told = BrokenOff stands kept pieces before now told
IsBrokenBy Store stands kept pieces before now told = StoppedBetween stands kept pieces before now told
IsBrokenBy (Malformed file part place) stands kept pieces before now told = StoppedBetween stands kept pieces before now told
IsBrokenBy (Missing file) stands kept pieces before now told = StoppedBetween stands kept pieces before now told
IsBrokenBy NoRepository stands kept pieces before now told = ⊥
IsBrokenBy Exists stands kept pieces before now told = ⊥
IsBrokenBy Memory stands kept pieces before now told = StoppedBetween stands kept pieces before now told

-- The fault is told of what was read: a part that isn't in its grammar, or a file that is missing.
abbrev pub IsDamage : CommandFault → Type 0
IsDamage Read = ⊥
IsDamage Write = ⊥
IsDamage Store = ⊥
IsDamage (Malformed file part place) = Unit {0}
IsDamage (Missing file) = Unit {0}
IsDamage NoRepository = ⊥
IsDamage Exists = ⊥
IsDamage Memory = ⊥

-- A command that changes files, and doesn't read them, is broken off so.
abbrev pub IsChangeFault : CommandFault → Type 0
IsChangeFault Read = ⊥
IsChangeFault Write = Unit {0}
IsChangeFault Store = Unit {0}
IsChangeFault (Malformed file part place) = ⊥
IsChangeFault (Missing file) = ⊥
IsChangeFault NoRepository = ⊥
IsChangeFault Exists = ⊥
IsChangeFault Memory = Unit {0}

-- And so where it takes items from a source.
abbrev pub IsItemsFault : CommandFault → Type 0
IsItemsFault Read = Unit {0}
IsItemsFault Write = Unit {0}
IsItemsFault Store = Unit {0}
IsItemsFault (Malformed file part place) = ⊥
IsItemsFault (Missing file) = ⊥
IsItemsFault NoRepository = ⊥
IsItemsFault Exists = ⊥
IsItemsFault Memory = Unit {0}

-- And so where it makes a repository.
abbrev pub IsCreateFault : CommandFault → Type 0
IsCreateFault Read = ⊥
IsCreateFault Write = Unit {0}
IsCreateFault Store = Unit {0}
IsCreateFault (Malformed file part place) = ⊥
IsCreateFault (Missing file) = ⊥
IsCreateFault NoRepository = ⊥
IsCreateFault Exists = Unit {0}
IsCreateFault Memory = Unit {0}

-- And so where there is a manifest: that is told, or the store or memory is to blame.
abbrev pub IsExistsFault : CommandFault → Type 0
IsExistsFault Read = ⊥
IsExistsFault Write = ⊥
IsExistsFault Store = Unit {0}
IsExistsFault (Malformed file part place) = ⊥
IsExistsFault (Missing file) = ⊥
IsExistsFault NoRepository = ⊥
IsExistsFault Exists = Unit {0}
IsExistsFault Memory = Unit {0}
