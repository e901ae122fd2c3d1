use Rattle.std.proofs.Common.{◌≡◌, ◌<◌, ◌^◌, map, take, All}
use Rattle.log_chain.specs.Progress.{digits_of}
use Rattle.leaf_chains.proofs.chains.digits_all.Given as goal

abbrev pub invariant-loop-chain : goal.invariant-loop-chain
invariant-loop-chain l = record {
  so_far : l.digits.items ≡ map digits_of (take l.chain-index l.chains);
  small : All (λ c. c < 2 ^ 66) l.digits.items;
}
