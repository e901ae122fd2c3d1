-- The steps of a command: a change of the files and its reply, and behind it the sweep.
use Rattle.std.proofs.Common.{◌≡◌, ◌≤◌, ◌⊎◌, inl, inr, ℕ, List, [], ◌∷◌, Option, Some, Ok, Err, sym, subst}
use Rattle.std.specs.Io.KnownBytes.{append_known}
use Rattle.std.specs.Prelude.{take}
use Rattle.ri_base.specs.declared.seg_fault.SegFault.{SegFault}
use Rattle.store_ends.specs.Files.{Files, Leaves}
use Rattle.store_ends.proofs.Files.{Leaves-same}
use Rattle.command_pieces.specs.CommandFaults.{of_files, of_items}
use Rattle.command_pieces.specs.Pieces.{Piece, StandsAlong}
use Rattle.command_pieces.specs.Written.{AllWritten, Plain, with_flush}
use Rattle.command_pieces.specs.declared.command_fault.CommandFault.{CommandFault}
use Rattle.command_pieces.specs.declared.command_fault.CommandFault.TheVariants as command
use Rattle.command_pieces.specs.declared.fault.Fault.{Fault}
use Rattle.command_pieces.specs.declared.fault.Fault.TheVariants as fault
use Rattle.repository.specs.RealLimits.{AreReal, StandsFor}
use Rattle.repository.specs.Stands.{Collection}
use Rattle.repository.specs.States.{ReadsAs, State}
use Rattle.repository.specs.Writes.{Writes, Wrote}
use Rattle.repository.proofs.RealLemmas.{stands-for}
use Rattle.collection_commands.specs.Ahead.{IsAhead}
use Rattle.collection_commands.specs.Steps.{Does}
use Rattle.collection_commands.proofs.CommitLemmas.{ahead-now, ahead-stops, flush-refused, flush-stops, flush-told, flush-untold, flush-unwritten, sweep-refused, swept, swept-stops}

-- The files come to stand for what a collection is made into, and one piece tells of it.
module _ (into : Collection → Collection) (piece : Collection → Plain) where
  abbrev pieces : Collection → List (Piece Collection)
  pieces c = with_flush (into c) (piece c) ∷ []

  -- there is no memory before anything is done
  pub none-done : (told : Option Files) (s : State) (taken : Option (List ℕ)) (past : ℕ → Files → Type 0) → Does {A = Unit {0}} told s pieces (Err command.Memory) taken taken told past past
  none-done told s taken past = record {
    finished = λ kept c ahead. tt;
    broken = λ kept c ahead. flush-unwritten kept (into c) (piece c) taken told (inl ahead.stands);
    stops = λ kept c ahead. Leaves-same past (StandsAlong StandsFor kept (pieces c));
  }

  -- ---- a call on a repository that changes the files so

  module _ {S : Type 0} (files : S → Option Files) (clock : S → ℕ) (since : S → ℕ → Files → Type 0) (own : ℕ → Type 0) (s : State) (old new : S) (writes : Writes files since own into s old new) where
    change-stops : (kept c : Collection) → IsAhead (files old) s kept c → Leaves (since old) (since new) (StandsAlong StandsFor kept (pieces c))
    change-stops kept c ahead = flush-stops kept (into c) (piece c) (since old) (since new) (ahead-stops files clock since own into s old new kept c writes ahead)

    -- it is refused
    pub change-refused : ((t : ℕ) (f : Files) → t ≤ clock new → files new ≡ Some f → since new t f) → ((f : Files) → since old (clock old) f → files old ≡ Some f) → clock old ≤ clock new
        → (e : SegFault) (r : CommandFault) (taken : Option (List ℕ)) → r ≡ of_files e → Does {A = Unit {0}} (files old) s pieces (Err r) taken taken (files new) (since old) (since new)
    change-refused honest still later e r taken is = record {
      finished = λ kept c ahead. tt;
      broken = λ kept c ahead. flush-refused kept (into c) (piece c) e r taken (files new) is (ahead-now files clock since own into s old new kept c honest still later writes ahead);
      stops = change-stops;
    }

    -- it is done
    module _ (t : State) (limits : t.held.limits ≡ s.held.limits) (wrote : Wrote into (files old) (files new) s t) where
      change-stands : (kept c : Collection) → IsAhead (files old) s kept c → StandsFor (into c) (files new)
      change-stands kept c ahead = stands-for t.held.limits (into c) (files new) (subst AreReal (sym limits) ahead.real) (wrote.stands c ahead.backed ahead.reads)

      pub change-ahead : (kept c : Collection) → IsAhead (files old) s kept c → IsAhead (files new) t (into c) (into c)
      change-ahead kept c ahead = record {
        backed = wrote.backed ahead.backed;
        real = subst AreReal (sym limits) ahead.real;
        stands = change-stands kept c ahead;
        reads = wrote.reads c ahead.backed ahead.reads;
      }

      -- and there is no memory for the reply
      pub change-unwritten : (taken : Option (List ℕ)) → Does {A = Unit {0}} (files old) s pieces (Err command.Memory) taken taken (files new) (since old) (since new)
      change-unwritten taken = record {
        finished = λ kept c ahead. tt;
        broken = λ kept c ahead. flush-unwritten kept (into c) (piece c) taken (files new) (inr (change-stands kept c ahead));
        stops = change-stops;
      }

      module _ (q : Plain) (is : (c : Collection) → ReadsAs (files new) t (into c) → q ≡ piece c) where
        change-piece : (kept c : Collection) → IsAhead (files old) s kept c → q ≡ piece c
        change-piece kept c ahead = is c (wrote.reads c ahead.backed ahead.reads)

        -- the reply is written
        pub change-told : (before now : Option (List ℕ)) → AllWritten (q ∷ []) before now → Does {A = Unit {0}} (files old) s pieces (Ok tt) before now (files new) (since old) (since new)
        change-told before now all = record {
          finished = λ kept c ahead. flush-told kept (into c) (piece c) q before now (files new) (change-piece kept c ahead) all (change-stands kept c ahead);
          broken = λ kept c ahead. tt;
          stops = change-stops;
        }

        -- or it isn't
        pub change-untold : (e : Fault) (r : CommandFault) (before now : Option (List ℕ)) → r ≡ of_items e → (e ≡ fault.Read → ⊥) → (e ≡ fault.Write → (n : ℕ) × (now ≡ append_known before (take n q.text)))
            → (e ≡ fault.Memory → now ≡ before) → Does {A = Unit {0}} (files old) s pieces (Err r) before now (files new) (since old) (since new)
        change-untold e r before now by unread front none = record {
          finished = λ kept c ahead. tt;
          broken = λ kept c ahead. flush-untold kept (into c) (piece c) e r q before now (files new) by (change-piece kept c ahead) (change-stands kept c ahead) unread front none;
          stops = change-stops;
        }

  -- ---- behind it the files are swept

  module _ (told : Option Files) (s : State) (x : Unit {0}) (before now : Option (List ℕ)) (mid after : Option Files) (past between since : ℕ → Files → Type 0) (does : Does {A = Unit {0}} told s pieces (Ok x) before now mid past between) (t : State)
      (behind : (kept c : Collection) → IsAhead told s kept c → IsAhead mid t (into c) (into c)) (stands : (c : Collection) → IsAhead mid t c c → StandsFor c after) (stops : (c : Collection) → IsAhead mid t c c → Leaves between since (StandsFor c)) where
    sweep-stops : (kept c : Collection) → IsAhead told s kept c → Leaves past since (StandsAlong StandsFor kept (pieces c))
    sweep-stops kept c ahead = swept-stops kept (into c) (piece c) past between since (does.stops kept c ahead) (stops (into c) (behind kept c ahead))

    pub sweep-done : Does {A = Unit {0}} told s pieces (Ok tt) before now after past since
    sweep-done = record {
      finished = λ kept c ahead. swept kept (into c) (piece c) before now mid after (does.finished kept c ahead) (stands (into c) (behind kept c ahead));
      broken = λ kept c ahead. tt;
      stops = sweep-stops;
    }

    pub sweep-broken : (e : CommandFault) → (e ≡ command.Store) ⊎ (e ≡ command.Memory) → Does {A = Unit {0}} told s pieces (Err e) before now after past since
    sweep-broken e which = record {
      finished = λ kept c ahead. tt;
      broken = λ kept c ahead. sweep-refused kept (into c) (piece c) e before now mid after which (does.finished kept c ahead) (stands (into c) (behind kept c ahead));
      stops = sweep-stops;
    }
