use Rattle.std.proofs.Common.{◌≡◌, ◌++◌, ◌≤◌, List, Some, drop, length, map, take}
use Rattle.std.specs.List.{AllZip}
use Rattle.store_ends.specs.Files.{Files, IsQuiet}
use Rattle.belief_nodes.specs.Priors as tells
use Rattle.repository.specs.Stands.{Collection, IsPriorRead, Prior}
use Rattle.repository.specs.States.{ReadsAs}
use Rattle.desk.specs.Priors.{kept_prior, run_priors}
use Rattle.desk.proofs.kept_priors.take_priors.Given as goal

-- the plugs of the priors that were gone over have their rows, and the others are as they were
abbrev pub invariant-loop-number : goal.invariant-loop-number
invariant-loop-number g l =
    let told = map (λ b. (goal.BeliefNode-dyn g (b.vtable, b.value)).meaning b.value) l.plugs in
    record {
      front : (front : List tells.Prior) × (length front ≡ l.number) × (told ≡ front ++ drop l.number run_priors);
      reads : (c : Collection) → ReadsAs (g.T.Store.files l.fn.store) l.repository c → told ≡ map (λ (p : Prior). kept_prior p.table) (take l.number c.priors) ++ drop l.number run_priors;
      listed : (f : Files) → g.T.Store.files l.fn.store ≡ Some f → (ps : List Prior) × AllZip (IsPriorRead (g.T.Store.files l.fn.store)) (take l.number l.repository.priors) ps
          × (told ≡ map (λ (p : Prior). kept_prior p.table) ps ++ drop l.number run_priors);
      many : length l.plugs ≡ 9;
      quiet : IsQuiet g.T.Store.files g.T.Store.layers g.T.Store.clock g.T.Store.since g.T.Store.longest g.T.Store.held l.fn.store l.store;
      later : g.T.Store.faults l.fn.store ≤ g.T.Store.faults l.store;
    }
