use Rattle.std.proofs.Common.{◌≡◌, ◌≤◌, ◌+◌, ◌*◌, ◌-◌, ◌++◌, map, take, drop, length}
use Rattle.leaf_chains.specs.Chains.{at_level}
use Rattle.leaf_chains.proofs.chains.extend_all.Given as goal

abbrev pub invariant-loop-chain : goal.invariant-loop-chain
invariant-loop-chain g l = record {
  done : l.chain-items ≡ map (at_level l.to) (take l.chain-index l.fn.chains.items) ++ drop l.chain-index l.fn.chains.items;
  cost : l.squares ≡ l.fn.squares + (l.to - l.from) * l.chain-index;
  within : l.chain-index ≤ length l.fn.chains.items;
}
