use Rattle.std.proofs.Common.{take}
use Rattle.seg_codec.proofs.RankLemmas.{AreTellingAll}
use Rattle.seg_codec.proofs.ranks.tell_all.Given as goal

abbrev pub invariant-loop-rank : goal.invariant-loop-rank
invariant-loop-rank l = AreTellingAll l.postings l.initial.ranks.items l.ranks.items (take l.rank l.postings)
