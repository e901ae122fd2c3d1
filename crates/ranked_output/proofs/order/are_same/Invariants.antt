use Rattle.std.proofs.Common.{◌≡◌, length}
use Rattle.std.specs.Iterator.Adapters.{zip_first, zip_second}
use Rattle.std.specs.Slice.Iter.{iter_rest}
use Rattle.ranked_output.specs.Marks.{are_same}
use Rattle.ranked_output.proofs.order.are_same.Given as goal

-- all depends on those that are left, which are as many of either
abbrev pub invariant-loop-x : goal.invariant-loop-x
invariant-loop-x l =
    (are_same l.xs l.ys ≡ are_same (iter_rest (zip_first l.x-iterator)) (iter_rest (zip_second l.x-iterator)))
    × (length (iter_rest (zip_first l.x-iterator)) ≡ length (iter_rest (zip_second l.x-iterator)))
