use Rattle.std.proofs.Common.{◌≡◌, take}
use Rattle.std.specs.Int.{div_ceil}
use Rattle.disk_index.proofs.RankLemmas.{AreRows}
use Rattle.disk_index.proofs.ranks.ranks_by_range.Given as goal

abbrev pub invariant-loop-term : goal.invariant-loop-term
invariant-loop-term l = record { rank_is : l.rank ≡ l.term-index; rows_are : AreRows (div_ceil l.docs 64) (take l.term-index l.dictionary) l.rows.items }
