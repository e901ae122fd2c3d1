-- What the scaling of beliefs answers: the scaled trees, or that a scale reaches 2^60. Want of memory may always be answered.
use Rattle.std.specs.Prelude.{◌≡◌, ◌<◌, ◌≤◌, ◌^◌, ℕ, map, Option, None, Some, Result, Ok, Err, Vec}
use Rattle.std.specs.Global.{Global}
use Rattle.query_check.specs.declared.fault.CheckFault.{CheckFault}
use Rattle.query_check.specs.declared.fault.CheckFault.TheVariants.{NoWeight, NoLeaf, ScaleTooLarge, UnknownPrior, Memory}
use Rattle.query_check.specs.declared.tree.Tree.{Tree}
use Rattle.query_check.specs.Scale.{scale, common, weighted_common}
use Rattle.query_check.specs.Trees.{ScaledTree, ScaledTrees, WeightedScaledTrees, scaled_tree, scaled_trees, weighted_scaled_tree, weighted_scaled_trees}

-- a fault that is want of memory, or comes of a scale that reaches 2^60
abbrev pub IsTooLarge : CheckFault → ℕ → Type 0
IsTooLarge NoWeight e = ⊥
IsTooLarge NoLeaf e = ⊥
IsTooLarge ScaleTooLarge e = 2 ^ 60 ≤ e
IsTooLarge (UnknownPrior f) e = ⊥
IsTooLarge Memory e = Unit {0}

abbrev pub Scales : Result Tree CheckFault → ScaledTree → Type 0
Scales (Ok t) tree = (scaled_tree t ≡ tree) × (scale tree < 2 ^ 60)
Scales (Err fault) tree = IsTooLarge fault (scale tree)

abbrev pub ScalesAll : Result (Vec Tree Global) CheckFault → ScaledTrees → Type 0
ScalesAll (Ok ts) trees = scaled_trees (map scaled_tree ts.items) ≡ trees
ScalesAll (Err fault) trees = IsTooLarge fault (common trees)

abbrev pub ScalesWeighted : Result (Vec (ℕ × Tree) Global) CheckFault → WeightedScaledTrees → Type 0
ScalesWeighted (Ok ts) trees = weighted_scaled_trees (map weighted_scaled_tree ts.items) ≡ trees
ScalesWeighted (Err fault) trees = IsTooLarge fault (weighted_common trees)

-- the scaled tree where there is no fault, or the fault
abbrev pub Accepts : Result Tree CheckFault → Option CheckFault → ScaledTree → Type 0
Accepts (Ok t) fault tree = (fault ≡ None) × (scaled_tree t ≡ tree)
Accepts (Err NoWeight) fault tree = fault ≡ Some NoWeight
Accepts (Err NoLeaf) fault tree = fault ≡ Some NoLeaf
Accepts (Err ScaleTooLarge) fault tree = fault ≡ Some ScaleTooLarge
Accepts (Err (UnknownPrior f)) fault tree = fault ≡ Some (UnknownPrior f)
Accepts (Err Memory) fault tree = Unit {0}
