-- A command that is broken off, and the last line of its run.
use Rattle.std.proofs.Common.{◌≡◌, ◌≤◌, inl, inr, ℕ, Bool, List, [], Option, None, Some, Result, Ok, Err, true, false, refl, sym, subst}
use Rattle.std.specs.Prelude.{IfErr, IfOk, OnOk}
use Rattle.std.specs.Option.{IfSome}
use Rattle.store_ends.specs.Files.{Files, Leaves, LeavesNoMore}
use Rattle.store_ends.proofs.Files.{Leaves-none, Leaves-same, Leaves-then}
use Rattle.command_words.specs.Table.{Asks, merge, prior}
use Rattle.command_pieces.specs.CommandFaults.{IsBrokenBy, IsDamage}
use Rattle.command_pieces.specs.Lines.{WritesLine}
use Rattle.command_pieces.specs.Pieces.{BrokenOff, Finished, Piece, StandsAlong, StoppedBetween, some_refused}
use Rattle.command_pieces.specs.declared.command_fault.CommandFault.{CommandFault}
use Rattle.command_pieces.specs.declared.command_fault.CommandFault.TheVariants as fault
use Rattle.command_pieces.proofs.Ending.{with-line}
use Rattle.command_pieces.proofs.Joining.{StoppedBetween-none}
use Rattle.repository.specs.RealLimits.{StandsFor}
use Rattle.repository.specs.Stands.{Collection}
use Rattle.collection_commands.specs.Merging.{merge_pieces}
use Rattle.collection_commands.specs.PriorSetting.{IsPriorBroken, name_refusal}
use Rattle.collection_commands.specs.PriorSetting as setting
use Rattle.indri_app.specs.Command.{AreBegun, AreBegunBy, ArePieces}
use Rattle.indri_app.specs.LastLines.{IsClosed, last_line, malformed_line, missing_line, read_line, store_line}
use Rattle.indri_app.specs.Opened.{IsFileFault, IsWant}
use Rattle.indri_app.specs.Runs.{IsBegun, IsDone, IsEnded, RunsTo, StopsAlong}
use Rattle.indri_app.specs.declared.status.Status.{Status}
use Rattle.indri_app.specs.declared.status.Status.TheVariants as status
use Rattle.indri_app.proofs.OpeningLemmas.{file-want}

module _ (told : Option Files) (asks : Asks) (c : Collection) (bytes : List ℕ) (start : Option (List ℕ)) (files : Option Files) (a z : ℕ) where
  pub as-status : (s t : Status) (now : Option (List ℕ)) → s ≡ t → RunsTo t told asks c bytes start now files a z → RunsTo s told asks c bytes start now files a z
  as-status s t now e r = subst (λ u. RunsTo u told asks c bytes start now files a z) (sym e) r

  still : (pieces : List (Piece Collection)) (mid now : Option (List ℕ)) → AreBegun told asks c bytes pieces → StoppedBetween StandsFor c pieces start mid files → now ≡ mid → RunsTo status.Memory told asks c bytes start now files a z
  still pieces mid now are s e = (pieces, are, subst (λ t. StoppedBetween StandsFor c pieces start t files) (sym e) s)

  -- damage is told behind whole pieces
  damaged : (why : CommandFault) → IsDamage why → (line : List ℕ) → last_line why ≡ Some line → (pieces : List (Piece Collection)) (mid now : Option (List ℕ)) (b : ℕ) → a ≤ b → AreBegun told asks c bytes pieces → StoppedBetween StandsFor c pieces start mid files
      → WritesLine mid now line b z → RunsTo status.Malformed told asks c bytes start now files a z
  damaged why damage line is pieces mid now b h are stopped l = (why, damage, (line, is, (pieces, are, with-line line StandsFor c pieces start mid now files a b z h stopped l)))

  -- what is told of a command of these pieces
  pub closed : (why : CommandFault) (s : Status) (pieces : List (Piece Collection)) (mid now : Option (List ℕ)) (b : ℕ) → a ≤ b → AreBegunBy why told asks c bytes pieces → IsBrokenBy why StandsFor c pieces start mid files → IsClosed why s mid now b z
      → RunsTo s told asks c bytes start now files a z
  closed fault.Read s pieces mid now b h are broken ends = elim ends [
    | inl (e, l) ↦ as-status s status.ReadFault now e (pieces, are, with-line read_line StandsFor c pieces start mid now files a b z h broken l)
    | inr (e, same) ↦ as-status s status.Memory now e (still pieces mid now are broken same)
  ]
  closed fault.Write s pieces mid now b h are broken (e, same) = as-status s status.WriteFault now e (inl (pieces, are, subst (λ t. BrokenOff StandsFor c pieces start t files) (sym same) broken))
  closed fault.Store s pieces mid now b h are broken ends = elim ends [
    | inl (e, l) ↦ as-status s status.StoreFault now e (pieces, are, with-line store_line StandsFor c pieces start mid now files a b z h broken l)
    | inr (e, same) ↦ as-status s status.Memory now e (still pieces mid now are broken same)
  ]
  closed (fault.Malformed f p place) s pieces mid now b h are broken ends = elim ends [
    | inl (e, l) ↦ as-status s status.Malformed now e (damaged (fault.Malformed f p place) tt (malformed_line f p place) refl pieces mid now b h are broken l)
    | inr (e, same) ↦ as-status s status.Memory now e (still pieces mid now are broken same)
  ]
  closed (fault.Missing f) s pieces mid now b h are broken ends = elim ends [
    | inl (e, l) ↦ as-status s status.Malformed now e (damaged (fault.Missing f) tt (missing_line f) refl pieces mid now b h are broken l)
    | inr (e, same) ↦ as-status s status.Memory now e (still pieces mid now are broken same)
  ]
  closed fault.NoRepository s pieces mid now b h are broken ends = absurd broken
  closed fault.Exists s pieces mid now b h are broken ends = absurd broken
  closed fault.Memory s pieces mid now b h are broken (e, same) = as-status s status.Memory now e (still pieces mid now are broken same)

-- a file isn't read, and nothing is done
pub file-begun : (why : CommandFault) (told : Option Files) (asks : Asks) (c : Collection) (bytes : List ℕ) (start now : Option (List ℕ)) (files : Option Files) → IsFileFault why → now ≡ start → StandsFor c files → IsBegun why told asks c bytes start now files
file-begun fault.Read told asks c bytes start now files only e stands = absurd only
file-begun fault.Write told asks c bytes start now files only e stands = absurd only
file-begun fault.Store told asks c bytes start now files only e stands = ([], inl refl, StoppedBetween-none StandsFor c [] start now files e stands)
file-begun (fault.Malformed f p place) told asks c bytes start now files only e stands = ([], inl refl, StoppedBetween-none StandsFor c [] start now files e stands)
file-begun (fault.Missing f) told asks c bytes start now files only e stands = ([], inl refl, StoppedBetween-none StandsFor c [] start now files e stands)
file-begun fault.NoRepository told asks c bytes start now files only e stands = absurd only
file-begun fault.Exists told asks c bytes start now files only e stands = absurd only
file-begun fault.Memory told asks c bytes start now files only e stands = ([], inl refl, StoppedBetween-none StandsFor c [] start now files e stands)

-- the store or memory is to blame
pub want-begun-some : (why : CommandFault) (told : Option Files) (asks : Asks) (c : Collection) (left : Option (List ℕ)) (start now : Option (List ℕ)) (files : Option Files) → IsWant why → now ≡ start → StandsFor c files
    → IfSome left (λ bytes. IsBegun why told asks c bytes start now files)
want-begun-some why told asks c None start now files want e stands = tt
want-begun-some why told asks c (Some bytes) start now files want e stands = file-begun why told asks c bytes start now files (file-want why want) e stands

-- ---- by what the command answers

as-done : (told : Option Files) (asks : Asks) (c : Collection) (bytes : List ℕ) (refused : Bool) (start mid now : Option (List ℕ)) (files : Option Files) → now ≡ mid → IsDone told asks c bytes refused start mid files → IsDone told asks c bytes refused start now files
as-done told asks c bytes refused start mid now files e d = subst (λ t. IsDone told asks c bytes refused start t files) (sym e) d

pub ended-runs : (told : Option Files) (asks : Asks) (c : Collection) (left : Option (List ℕ)) (start mid now : Option (List ℕ)) (files : Option Files) (answer : Result Bool CommandFault) (s : Status) (a b z : ℕ) → a ≤ b
    → IfOk answer (λ refused. IfSome left (λ bytes. IsDone told asks c bytes refused start mid files)) → IfErr answer (λ why. IfSome left (λ bytes. IsBegun why told asks c bytes start mid files))
    → IsEnded answer s mid now b z → IfSome left (λ bytes. RunsTo s told asks c bytes start now files a z)
ended-runs told asks c None start mid now files answer s a b z h done begun ends = tt
ended-runs told asks c (Some bytes) start mid now files (Ok false) s a b z h done begun (e, same) =
    as-status told asks c bytes start files a z s status.Done now e (as-done told asks c bytes false start mid now files same done)
ended-runs told asks c (Some bytes) start mid now files (Ok true) s a b z h done begun (e, same) =
    as-status told asks c bytes start files a z s status.SomeRefused now e (as-done told asks c bytes true start mid now files same done)
ended-runs told asks c (Some bytes) start mid now files (Err why) s a b z h done begun ends =
    closed told asks c bytes start files a z why s begun.0 mid now b h begun.1 begun.2 ends

-- what a command of these pieces answers
pub done-by : (told : Option Files) (asks : Asks) (c : Collection) (pieces : List ℕ → List (Piece Collection)) (left start now : Option (List ℕ)) (files : Option Files) (answer : Result Bool CommandFault)
    → ((bytes : List ℕ) → ArePieces told asks c bytes (pieces bytes)) → IfOk answer (λ refused. IfSome left (λ bytes. some_refused (pieces bytes) ≡ refused)) → OnOk answer (IfSome left (λ bytes. Finished StandsFor c (pieces bytes) start now files))
    → IfOk answer (λ refused. IfSome left (λ bytes. IsDone told asks c bytes refused start now files))
done-by told asks c pieces left start now files (Err why) are some finished = tt
done-by told asks c pieces None start now files (Ok refused) are some finished = tt
done-by told asks c pieces (Some bytes) start now files (Ok refused) are some finished = (pieces bytes, are bytes, some, finished)

any-begun : (why : CommandFault) (told : Option Files) (asks : Asks) (c : Collection) (bytes : List ℕ) (pieces : List (Piece Collection)) → ArePieces told asks c bytes pieces → AreBegunBy why told asks c bytes pieces
any-begun fault.Read told asks c bytes pieces are = inr are
any-begun fault.Write told asks c bytes pieces are = are
any-begun fault.Store told asks c bytes pieces are = inr are
any-begun (fault.Malformed f p place) told asks c bytes pieces are = inr are
any-begun (fault.Missing f) told asks c bytes pieces are = inr are
any-begun fault.NoRepository told asks c bytes pieces are = inr are
any-begun fault.Exists told asks c bytes pieces are = inr are
any-begun fault.Memory told asks c bytes pieces are = inr are

pub begun-by : (told : Option Files) (asks : Asks) (c : Collection) (pieces : List ℕ → List (Piece Collection)) (left start now : Option (List ℕ)) (files : Option Files) (answer : Result Bool CommandFault)
    → ((bytes : List ℕ) → ArePieces told asks c bytes (pieces bytes)) → IfErr answer (λ why. IfSome left (λ bytes. IsBrokenBy why StandsFor c (pieces bytes) start now files))
    → IfErr answer (λ why. IfSome left (λ bytes. IsBegun why told asks c bytes start now files))
begun-by told asks c pieces left start now files (Ok refused) are broken = tt
begun-by told asks c pieces None start now files (Err why) are broken = tt
begun-by told asks c pieces (Some bytes) start now files (Err why) are broken = (pieces bytes, any-begun why told asks c bytes (pieces bytes) (are bytes), broken)

pub stops-by : (told : Option Files) (asks : Asks) (c : Collection) (pieces : List ℕ → List (Piece Collection)) (left : Option (List ℕ)) (past since : ℕ → Files → Type 0)
    → ((bytes : List ℕ) → ArePieces told asks c bytes (pieces bytes)) → IfSome left (λ bytes. Leaves past since (StandsAlong StandsFor c (pieces bytes))) → IfSome left (λ bytes. StopsAlong told asks c bytes past since)
stops-by told asks c pieces None past since are leaves = tt
stops-by told asks c pieces (Some bytes) past since are leaves = (pieces bytes, inr (are bytes), leaves)

-- ---- a merge, which takes no item

pub merge-done : (told : Option Files) (c : Collection) (left start now : Option (List ℕ)) (files : Option Files) (answer : Result Bool CommandFault) → IfOk answer (λ refused. refused ≡ false) → OnOk answer (Finished StandsFor c (merge_pieces c) start now files)
    → IfOk answer (λ refused. IfSome left (λ bytes. IsDone told merge c bytes refused start now files))
merge-done told c left start now files (Err why) is finished = tt
merge-done told c None start now files (Ok refused) is finished = tt
merge-done told c (Some bytes) start now files (Ok refused) is finished = (merge_pieces c, refl, sym is, finished)

pub merge-begun : (told : Option Files) (c : Collection) (left start now : Option (List ℕ)) (files : Option Files) (answer : Result Bool CommandFault) → IfErr answer (λ why. IsBrokenBy why StandsFor c (merge_pieces c) start now files)
    → IfErr answer (λ why. IfSome left (λ bytes. IsBegun why told merge c bytes start now files))
merge-begun told c left start now files (Ok refused) broken = tt
merge-begun told c None start now files (Err why) broken = tt
merge-begun told c (Some bytes) start now files (Err why) broken = (merge_pieces c, any-begun why told merge c bytes (merge_pieces c) refl, broken)

pub merge-stops : (told : Option Files) (c : Collection) (left : Option (List ℕ)) (past since : ℕ → Files → Type 0) → Leaves past since (StandsAlong StandsFor c (merge_pieces c)) → IfSome left (λ bytes. StopsAlong told merge c bytes past since)
merge-stops told c None past since leaves = tt
merge-stops told c (Some bytes) past since leaves = (merge_pieces c, inr refl, leaves)

-- ---- a prior, whose pieces need a table of the rows

prior-any : (why : CommandFault) (told : Option Files) (name : List ℕ) (c : Collection) (bytes : List ℕ) (pieces : List (Piece Collection)) → setting.AreBegun why (name_refusal c name) c name bytes pieces → AreBegunBy why told (prior name) c bytes pieces
prior-any fault.Read told name c bytes pieces are = inl are
prior-any fault.Write told name c bytes pieces are = are
prior-any fault.Store told name c bytes pieces are = inr are
prior-any (fault.Malformed f p place) told name c bytes pieces are = inr are
prior-any (fault.Missing f) told name c bytes pieces are = inr are
prior-any fault.NoRepository told name c bytes pieces are = inr are
prior-any fault.Exists told name c bytes pieces are = inr are
prior-any fault.Memory told name c bytes pieces are = are

pub prior-begun : (told : Option Files) (name : List ℕ) (c : Collection) (left start now : Option (List ℕ)) (files : Option Files) (answer : Result Bool CommandFault)
    → IfErr answer (λ why. IfSome left (λ bytes. IsPriorBroken (name_refusal c name) why c name bytes start now files))
    → IfErr answer (λ why. IfSome left (λ bytes. IsBegun why told (prior name) c bytes start now files))
prior-begun told name c left start now files (Ok refused) h = tt
prior-begun told name c None start now files (Err why) h = tt
prior-begun told name c (Some bytes) start now files (Err why) (pieces, are, broken) = (pieces, prior-any why told name c bytes pieces are, broken)

-- ---- what a stop leaves where nothing is changed

pub stops-none : (told : Option Files) (asks : Asks) (c : Collection) (left : Option (List ℕ)) (past since : ℕ → Files → Type 0) → LeavesNoMore past since → IfSome left (λ bytes. StopsAlong told asks c bytes past since)
stops-none told asks c None past since no_more = tt
stops-none told asks c (Some bytes) past since no_more = ([], inl refl, Leaves-none past past since (StandsAlong StandsFor c []) (Leaves-same past (StandsAlong StandsFor c [])) no_more)

-- and where something is changed behind it
pub stops-behind : (told : Option Files) (asks : Asks) (c : Collection) (left : Option (List ℕ)) (past mid since : ℕ → Files → Type 0) → LeavesNoMore past mid → IfSome left (λ bytes. StopsAlong told asks c bytes mid since)
    → IfSome left (λ bytes. StopsAlong told asks c bytes past since)
stops-behind told asks c None past mid since no_more h = tt
stops-behind told asks c (Some bytes) past mid since no_more (pieces, are, leaves) = (
  pieces,
  are,
  Leaves-then past mid since (StandsAlong StandsFor c pieces) (StandsAlong StandsFor c pieces)
      (Leaves-none past past mid (StandsAlong StandsFor c pieces) (Leaves-same past (StandsAlong StandsFor c pieces)) no_more) leaves (λ f s. s),
)
