use Rattle.std.proofs.Common.{◌≡◌, map, replicate, take}
use Rattle.seg_codec.proofs.ranks.untold.Given as goal

abbrev pub invariant-loop-entry : goal.invariant-loop-entry
invariant-loop-entry l = l.ranks.items ≡ map (λ e. replicate e.tokens l.terms) (take l.entry-index l.documents)
