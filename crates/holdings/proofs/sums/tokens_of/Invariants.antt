use Rattle.std.proofs.Common.{◌≡◌, ◌≤◌, ◌*◌, None, take}
use Rattle.ri_base.specs.Collection.{token_count}
use Rattle.ri_base.specs.declared.limits.TheConstants.{MAX_DOC_TOKENS}
use Rattle.disk_index.specs.Parts.{reads, source_of}
use Rattle.holdings.proofs.sums.tokens_of.Given as goal

abbrev pub invariant-loop-id : goal.invariant-loop-id
invariant-loop-id l = record {
  short : l.tokens ≤ l.id * MAX_DOC_TOKENS;
  first : l.tokens ≡ token_count (take l.id (reads None (source_of l.part)));
}
