-- What a call of the check answers. Want of memory may be answered at any query.
use Rattle.std.specs.Prelude.{◌≡◌, map, Result, Ok, Err}
use Rattle.ri_base.specs.Query.{filter_tree}
use Rattle.query_check.specs.declared.checked.Checked.{Checked}
use Rattle.query_check.specs.declared.fault.CheckFault.{CheckFault}
use Rattle.query_check.specs.declared.fault.CheckFault.TheVariants.{NoWeight, NoLeaf, ScaleTooLarge, UnknownPrior, Memory}
use Rattle.query_check.specs.Check.{CheckedTree}
use Rattle.query_check.specs.Leaves.{leaf_tree}
use Rattle.query_check.specs.Trees.{scaled_tree}

-- the plain tree that a checked query stands for
abbrev pub whole_checked : Checked → CheckedTree
whole_checked c = record {
  filters = map filter_tree c.filters.items;
  range = c.range;
  leaves = map leaf_tree c.leaves.items;
  tree = scaled_tree c.tree;
  scale = c.scale;
}

abbrev pub Answers : Result Checked CheckFault → Result CheckedTree CheckFault → Type 0
Answers (Ok c) checks = checks ≡ Ok (whole_checked c)
Answers (Err NoWeight) checks = checks ≡ Err NoWeight
Answers (Err NoLeaf) checks = checks ≡ Err NoLeaf
Answers (Err ScaleTooLarge) checks = checks ≡ Err ScaleTooLarge
Answers (Err (UnknownPrior f)) checks = checks ≡ Err (UnknownPrior f)
Answers (Err Memory) checks = Unit {0}
