use Rattle.std.proofs.Common.{◌≡◌, drop, length, sum_by}
use Rattle.std.specs.Prelude.{nat_le}
use Rattle.seg_codec.proofs.held.are_enough.Given as goal

abbrev pub invariant-loop-places : goal.invariant-loop-places
invariant-loop-places l = nat_le l.left (sum_by (λ ps. length ps) (drop l.places-index l.postings)) ≡ nat_le l.fn.tokens (sum_by (λ ps. length ps) l.postings)
