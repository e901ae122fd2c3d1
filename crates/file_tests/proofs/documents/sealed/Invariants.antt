use Rattle.std.proofs.Common.{◌≤◌}
use Rattle.ri_base.specs.Collection.{name_count}
use Rattle.ri_base.specs.declared.limits.TheConstants.{MAX_PART_NAMES}
use Rattle.file_tests.proofs.documents.sealed.Given as goal

abbrev pub invariant-loop-doc : goal.invariant-loop-doc
invariant-loop-doc l = name_count l.index.documents ≤ MAX_PART_NAMES
