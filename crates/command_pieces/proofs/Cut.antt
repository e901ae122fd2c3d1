-- Pieces of a command that changes no files, written one behind the other.
use Rattle.std.proofs.Common.{◌≡◌, ℕ, List, [], ◌∷◌, ◌++◌, refl, subst, Option, None, take}
use Rattle.std.specs.Io.KnownBytes.{append_known}
use Rattle.command_pieces.specs.Faults.{IsBroken, IsCut}
use Rattle.command_pieces.specs.Pieces.{kept_behind}
use Rattle.command_pieces.specs.Written.{AllWritten, AnyFiles, CutBetween, CutWithin, Plain}
use Rattle.command_pieces.specs.declared.fault.Fault.{Fault}
use Rattle.command_pieces.proofs.Joining.{BrokenOff-one, Finished-none, Finished-one, Finished-then, StoppedBetween-all, StoppedBetween-finished, StoppedBetween-none, broken-more, broken-then}

pub all_one : (p : Plain) (before now : Option (List ℕ)) → now ≡ append_known before p.text → AllWritten (p ∷ []) before now
all_one p before now e = Finished-one AnyFiles tt p before now None e tt

pub cut_one : (p : Plain) (text : List ℕ) (n : ℕ) (before now : Option (List ℕ)) → text ≡ p.text → now ≡ append_known before (take n text) → CutWithin (p ∷ []) before now
cut_one p text n before now is written = BrokenOff-one AnyFiles tt p text n before now None is written tt

pub all_none : (taken : Option (List ℕ)) → AllWritten [] taken taken
all_none taken = Finished-none AnyFiles tt taken None tt

pub all-then : (ps qs : List Plain) (before mid now : Option (List ℕ)) → AllWritten ps before mid → AllWritten qs mid now → AllWritten (ps ++ qs) before now
all-then ps qs before mid now a b = Finished-then AnyFiles tt ps qs before mid now None None a (record { written = b.written; files_stand = tt })

pub cut_first : (ps : List Plain) (before now : Option (List ℕ)) → now ≡ before → CutBetween ps before now
cut_first ps before now e = StoppedBetween-none AnyFiles tt ps before now None e tt

-- All that is written are these pieces, and the rest isn't begun.
pub cut-behind : (ps qs : List Plain) (before now : Option (List ℕ)) → AllWritten ps before now → CutBetween (ps ++ qs) before now
cut-behind ps qs before now a = StoppedBetween-finished AnyFiles tt ps qs before now None a

pub cut-all : (ps : List Plain) (before now : Option (List ℕ)) → AllWritten ps before now → CutBetween ps before now
cut-all ps before now a = StoppedBetween-all AnyFiles tt ps before now None a

pub cut-more : (e : Fault) (ps qs : List Plain) (before now : Option (List ℕ)) → IsCut e ps before now → IsCut e (ps ++ qs) before now
cut-more e ps qs before now b = broken-more e AnyFiles tt ps qs before now None b

one_unit : (u : Unit {0}) → tt ≡ u
one_unit u = refl

pub cut-then : (e : Fault) (ps qs : List Plain) (before mid now : Option (List ℕ)) → AllWritten ps before mid → IsCut e qs mid now → IsCut e (ps ++ qs) before now
cut-then e ps qs before mid now a b =
    broken-then e AnyFiles tt ps qs before mid now None None a (subst (λ u. IsBroken e AnyFiles u qs mid now None) (one_unit (kept_behind tt ps)) b)
