use Rattle.std.proofs.Common.{subst, sym}
use Rattle.leaf_chains.specs.Chains.{AreAt}
use Rattle.bounded_keys.proofs.Levels.{started_level}
use Rattle.bounded_keys.proofs.entry.early_leaves.Goals as goal

pub extend_all-requires-clause-at : goal.extend_all-requires-clause-at
extend_all-requires-clause-at g c = subst (λ xs. AreAt 0 xs) (sym c.in_ok-chains.ensures) (started_level c.args.fractions.now)
