use Rattle.std.proofs.Common.{◌≡◌, ◌++◌, drop}
use Rattle.seg_codec.specs.Whole.{block_postings}
use Rattle.seg_codec.proofs.whole.put_postings.Given as goal

abbrev pub invariant-loop-entry : goal.invariant-loop-entry
invariant-loop-entry l = l.postings.items ++ block_postings (drop l.entry-index l.entries) ≡ l.fn.postings.items ++ block_postings l.entries
