use Rattle.std.proofs.Common.{take}
use Rattle.disk_index.specs.Ranks.{IsRanked}
use Rattle.disk_index.proofs.ranks.add_rank.Given as goal

abbrev pub invariant-loop-block : goal.invariant-loop-block
invariant-loop-block l = IsRanked (take l.block-index l.blocks) l.rank l.initial.rows.items l.rows.items
