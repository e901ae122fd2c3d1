use Rattle.std.proofs.Common.{◌≡◌, ◌≤◌, ◌+◌, ◌-◌}
use Rattle.leaf_chains.specs.Chains.{at_level}
use Rattle.leaf_chains.proofs.chains.extend_to.Given as goal

abbrev pub invariant-loop-chain : goal.invariant-loop-chain
invariant-loop-chain g l = record {
  same : l.chain ≡ at_level l.chain.level l.fn.chain;
  below : l.chain.level ≤ l.level;
  cost : l.squares + l.fn.chain.level ≡ l.fn.squares + l.chain.level;
}

abbrev pub decreases-loop-chain : goal.decreases-loop-chain
decreases-loop-chain g l = l.level - l.chain.level
