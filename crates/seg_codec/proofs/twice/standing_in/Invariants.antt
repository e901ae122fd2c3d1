use Rattle.std.proofs.Common.{◌≡◌, ◌+◌, ◌++◌, drop, length, sum_by}
use Rattle.seg_codec.specs.Segment.{blocks_of}
use Rattle.seg_codec.specs.Twice.{all_standing}
use Rattle.seg_codec.proofs.twice.standing_in.Given as goal

abbrev pub invariant-loop-places : goal.invariant-loop-places
invariant-loop-places l = record {
  stand : l.out.items ++ all_standing l.end (drop l.places-index l.postings) ≡ all_standing l.start l.postings;
  end : l.end + sum_by (λ ps. length (blocks_of ps)) (drop l.places-index l.postings) ≡ l.start + sum_by (λ ps. length (blocks_of ps)) l.postings;
}
