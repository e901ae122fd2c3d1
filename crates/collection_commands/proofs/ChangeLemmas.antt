-- Items that change a repository in memory alone, and behind them its flush.
use Rattle.std.proofs.Common.{◌≡◌, ℕ, Bool, List, Option, None, Some, refl, sym, subst, ◌∙◌}
use Rattle.std.specs.Option.{IfSome}
use Rattle.store_ends.specs.Files.{Files, Leaves}
use Rattle.store_ends.proofs.Files.{Leaves-same}
use Rattle.command_pieces.specs.CommandFaults.{IsBrokenBy, of_items}
use Rattle.command_pieces.specs.Faults.{IsCut}
use Rattle.command_pieces.specs.Pieces.{Finished, StandsAlong, some_refused}
use Rattle.command_pieces.specs.Written.{AllWritten, Plain}
use Rattle.command_pieces.specs.declared.command_fault.CommandFault.{CommandFault}
use Rattle.command_pieces.specs.declared.fault.Fault.{Fault}
use Rattle.command_pieces.proofs.Commands.{Along-changed, Finished-changed, by-changed, by-unchanged, refused-changed}
use Rattle.repository.specs.RealLimits.{StandsFor}
use Rattle.repository.specs.Stands.{Collection}
use Rattle.repository.specs.RealLimits.{AreReal}
use Rattle.repository.specs.States.{IsBacked, ReadsAs, State}
use Rattle.collection_commands.specs.Ahead.{IsAhead}
use Rattle.collection_commands.specs.Flushing.{flush_pieces, flushed_piece, then_flushed}

-- By the bytes of the input: what is written of its items, and the collection behind them.
module _ (pieces : List ℕ → List Plain) (behind : List ℕ → Collection) (kept : Collection) where
  pub changed-refused : (left : Option (List ℕ)) (noted : Bool) → IfSome left (λ bytes. noted ≡ some_refused (pieces bytes)) → IfSome left (λ bytes. some_refused (then_flushed (pieces bytes) (behind bytes)) ≡ noted)
  changed-refused None noted e = tt
  changed-refused (Some bytes) noted e = refused-changed (behind bytes) (pieces bytes) (flushed_piece (behind bytes)) refl ∙ sym e

  pub unchanged-broken : (e : Fault) (r : CommandFault) (left : Option (List ℕ)) (before now : Option (List ℕ)) (f : Option Files) → r ≡ of_items e → IfSome left (λ bytes. IsCut e (pieces bytes) before now) → StandsFor kept f
      → IfSome left (λ bytes. IsBrokenBy r StandsFor kept (then_flushed (pieces bytes) (behind bytes)) before now f)
  unchanged-broken e r None before now f by b s = tt
  unchanged-broken e r (Some bytes) before now f by b s =
      subst (λ (x : CommandFault). IsBrokenBy x StandsFor kept (then_flushed (pieces bytes) (behind bytes)) before now f) (sym by) (by-unchanged e StandsFor kept (behind bytes) (pieces bytes) (flushed_piece (behind bytes)) before now f b s)

  -- the files aren't touched
  pub unchanged-stops : (left : Option (List ℕ)) (past : ℕ → Files → Type 0) → IfSome left (λ bytes. Leaves past past (StandsAlong StandsFor kept (then_flushed (pieces bytes) (behind bytes))))
  unchanged-stops None past = tt
  unchanged-stops (Some bytes) past = Leaves-same past _

  -- The repository is ahead of the files then: the flush, by what it does for each collection that the repository may read as.
  pub flushed-finished : (told : Option Files) (s : State) (left before mid now : Option (List ℕ)) (g : Option Files) → IfSome left (λ bytes. IsAhead told s kept (behind bytes)) → IfSome left (λ bytes. AllWritten (pieces bytes) before mid)
      → StandsFor kept told → ((k c : Collection) → IsAhead told s k c → Finished StandsFor k (flush_pieces c) mid now g) → IfSome left (λ bytes. Finished StandsFor kept (then_flushed (pieces bytes) (behind bytes)) before now g)
  flushed-finished told s None before mid now g ahead a stands does = tt
  flushed-finished told s (Some bytes) before mid now g ahead a stands does =
      Finished-changed StandsFor kept (behind bytes) (pieces bytes) (flushed_piece (behind bytes)) before mid now told g a stands (does kept (behind bytes) ahead)

  pub flushed-broken : (e : CommandFault) (told : Option Files) (s : State) (left before mid now : Option (List ℕ)) (g : Option Files) → IfSome left (λ bytes. IsAhead told s kept (behind bytes)) → IfSome left (λ bytes. AllWritten (pieces bytes) before mid)
      → StandsFor kept told → ((k c : Collection) → IsAhead told s k c → IsBrokenBy e StandsFor k (flush_pieces c) mid now g) → IfSome left (λ bytes. IsBrokenBy e StandsFor kept (then_flushed (pieces bytes) (behind bytes)) before now g)
  flushed-broken e told s None before mid now g ahead a stands does = tt
  flushed-broken e told s (Some bytes) before mid now g ahead a stands does =
      by-changed e StandsFor kept (behind bytes) (pieces bytes) (flushed_piece (behind bytes)) before mid now told g a stands (does kept (behind bytes) ahead)

  pub flushed-stops : (told : Option Files) (s : State) (left : Option (List ℕ)) (past since : ℕ → Files → Type 0) → IfSome left (λ bytes. IsAhead told s kept (behind bytes))
      → ((k c : Collection) → IsAhead told s k c → Leaves past since (StandsAlong StandsFor k (flush_pieces c))) → IfSome left (λ bytes. Leaves past since (StandsAlong StandsFor kept (then_flushed (pieces bytes) (behind bytes))))
  flushed-stops told s None past since ahead stops = tt
  flushed-stops told s (Some bytes) past since ahead stops = Along-changed past since StandsFor kept (behind bytes) (pieces bytes) (flushed_piece (behind bytes)) (stops kept (behind bytes) ahead)

-- the repository behind the items
pub ahead-some : (behind : List ℕ → Collection) (told : Option Files) (s : State) (kept : Collection) (left : Option (List ℕ)) → IsBacked told s → AreReal s.held.limits → StandsFor kept told → IfSome left (λ bytes. ReadsAs told s (behind bytes))
    → IfSome left (λ bytes. IsAhead told s kept (behind bytes))
ahead-some behind told s kept None backed real stands reads = tt
ahead-some behind told s kept (Some bytes) backed real stands reads = record { backed = backed; real = real; stands = stands; reads = reads }
