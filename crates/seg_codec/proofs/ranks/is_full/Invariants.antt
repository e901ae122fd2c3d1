use Rattle.std.proofs.Common.{◌<◌, take}
use Rattle.std.specs.List.{All}
use Rattle.seg_codec.proofs.ranks.is_full.Given as goal

abbrev pub invariant-loop-rank : goal.invariant-loop-rank
invariant-loop-rank l = All (λ r. r < l.terms) (take l.rank-index l.ranks)
