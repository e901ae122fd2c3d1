use Rattle.std.proofs.Common.{◌≤◌, take, unwrap_or}
use Rattle.ri_base.specs.declared.limits.TheConstants.{MAX_DOC_TOKENS}
use Rattle.range_bounds.specs.Tables.{names_of, terms_of, told}
use Rattle.range_bounds.proofs.Togethers.{AreTold}
use Rattle.range_bounds.proofs.most.+most.Given as goal

abbrev pub invariant-most_together-loop-x : goal.invariant-most_together-loop-x
invariant-most_together-loop-x l = record {
  so_far : AreTold (told (terms_of l.table) l.counts.places.items) (told (names_of l.table) l.counts.begins.items) (take l.x-index l.all) l.together;
  few : unwrap_or l.together.first 0 ≤ MAX_DOC_TOKENS;
}
