use Rattle.std.proofs.Common.{◌≡◌, ◌≤◌, take}
use Rattle.disk_index.specs.Snapshots.{documents_held}
use Rattle.holdings.specs.MarkedParts.{tokens_held}
use Rattle.holdings.proofs.sums.held_sums.Given as goal

abbrev pub invariant-loop-marked : goal.invariant-loop-marked
invariant-loop-marked l = record {
  counts : l.number ≡ l.marked-index;
  documents : l.documents ≡ documents_held (take l.marked-index l.parts);
  tokens : l.tokens ≡ tokens_held (take l.marked-index l.parts);
  documents_fit : l.documents ≤ l.limits.held_docs;
  tokens_fit : l.tokens ≤ l.limits.held_tokens;
}
