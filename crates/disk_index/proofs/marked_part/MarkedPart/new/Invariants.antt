use Rattle.std.proofs.Common.{◌≤◌, ◌*◌}
use Rattle.ri_base.specs.declared.limits.TheConstants.{MAX_DOC_TOKENS}
use Rattle.disk_index.specs.Parts.{source_of}
use Rattle.disk_index.proofs.LiveLemmas.{AreFirst}
use Rattle.disk_index.proofs.marked_part.MarkedPart.new.Given as goal

abbrev pub invariant-loop-id : goal.invariant-loop-id
invariant-loop-id l = record {
  short : l.tokens ≤ l.id * MAX_DOC_TOKENS;
  fewer : l.live_tokens ≤ l.tokens;
  first : AreFirst (source_of l.part) l.marks l.id l.tokens l.live_tokens;
}
