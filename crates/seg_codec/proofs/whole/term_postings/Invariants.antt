use Rattle.std.proofs.Common.{◌≡◌, drop}
use Rattle.seg_codec.specs.Whole.{term_postings}
use Rattle.seg_codec.proofs.WholeLemmas.{with_postings}
use Rattle.seg_codec.proofs.whole.term_postings.Given as goal

abbrev pub invariant-loop-block : goal.invariant-loop-block
invariant-loop-block l = with_postings l.postings.items (term_postings l.bytes l.documents (drop l.block-index l.blocks)) ≡ term_postings l.bytes l.documents l.blocks
