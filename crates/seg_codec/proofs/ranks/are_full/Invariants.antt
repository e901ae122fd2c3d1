use Rattle.std.proofs.Common.{◌<◌, List, ℕ, take}
use Rattle.std.specs.List.{All}
use Rattle.seg_codec.proofs.ranks.are_full.Given as goal

abbrev pub invariant-loop-row : goal.invariant-loop-row
invariant-loop-row l = All (λ (rs : List ℕ). All (λ r. r < l.terms) rs) (take l.row-index l.ranks)
