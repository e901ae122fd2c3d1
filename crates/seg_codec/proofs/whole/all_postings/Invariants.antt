use Rattle.std.proofs.Common.{◌≡◌, drop}
use Rattle.seg_codec.specs.Whole.{all_postings}
use Rattle.seg_codec.proofs.WholeLemmas.{with_postings}
use Rattle.seg_codec.proofs.whole.all_postings.Given as goal

abbrev pub invariant-loop-term : goal.invariant-loop-term
invariant-loop-term l = with_postings l.postings (all_postings l.bytes l.documents (drop l.term-index l.terms)) ≡ all_postings l.bytes l.documents l.terms
