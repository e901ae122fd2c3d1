use Rattle.std.proofs.Common.{◌≤◌, length, arith}
use Rattle.memory_index.proofs.SortLemmas.{named_made}
use Rattle.memory_index.proofs.inversion.ranks_of.Goals as goal

pub returns-clause-named : goal.returns-clause-named
returns-clause-named c =
    let past : length c.args.sorted.now ≤ c.loop-s.s-index = omega arith in
    named_made c.args.terms.now c.args.sorted.now c.loop-s.ranks.items c.requires.are_sorted c.loop-s.invariant.same_length (λ j d h. c.loop-s.invariant.told j d (omega arith))
