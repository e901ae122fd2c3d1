use Rattle.std.proofs.Common.{◌≡◌, map, take}
use Rattle.leaf_chains.specs.Chains.{started}
use Rattle.leaf_chains.proofs.chains.start_all.Given as goal

abbrev pub invariant-loop-f : goal.invariant-loop-f
invariant-loop-f l = l.chains.items ≡ map started (take l.f-index l.fractions)
