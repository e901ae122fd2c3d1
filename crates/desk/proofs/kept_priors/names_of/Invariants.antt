use Rattle.std.proofs.Common.{◌≡◌, map, take}
use Rattle.manifest.specs.declared.manifest.PriorEntry.{PriorEntry}
use Rattle.desk.proofs.kept_priors.names_of.Given as goal

-- the names of the entries that were gone over
abbrev pub invariant-loop-entry : goal.invariant-loop-entry
invariant-loop-entry l = l.names.items ≡ map (λ (e : PriorEntry). e.name) (take l.entry-index l.priors)
