use Rattle.std.proofs.Common.{◌≡◌, ◌≤◌, ◌*◌, Option, Some}
use Rattle.ri_base.specs.declared.limits.TheConstants.{MAX_DOC_TOKENS}
use Rattle.store_ends.specs.Files.{Files}
use Rattle.counts.specs.PartSums.{sum_first}
use Rattle.counts.specs.Sums.{counted_tokens}
use Rattle.counts.proofs.lengths.covered_in_part.Given as goal

abbrev pub invariant-loop-id : goal.invariant-loop-id
invariant-loop-id l = record {
  short : l.count ≤ l.id * MAX_DOC_TOKENS;
  so_far : (told : Option Files) → l.count ≡ sum_first (counted_tokens (Some l.name)) told l.marked l.id;
}
