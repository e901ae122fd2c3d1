use Rattle.std.proofs.Common.{◌≡◌, ◌++◌, drop, map}
use Rattle.ri_base.specs.Ratio.{ratio_of}
use Rattle.bounded_keys.specs.Digits.{belief}
use Rattle.bounded_keys.proofs.entry.fractions_of.Given as goal

abbrev pub invariant-loop-leaf : goal.invariant-loop-leaf
invariant-loop-leaf l = map ratio_of l.fractions ++ map belief (drop l.leaf-index l.leaf-items) ≡ map belief l.fn.leaves
