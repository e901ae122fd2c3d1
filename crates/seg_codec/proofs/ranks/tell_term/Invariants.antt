use Rattle.std.proofs.Common.{[], get_or, take}
use Rattle.seg_codec.proofs.RankLemmas.{AreTelling}
use Rattle.seg_codec.proofs.ranks.tell_term.Given as goal

abbrev pub invariant-loop-place : goal.invariant-loop-place
invariant-loop-place l = AreTelling l.postings l.initial.ranks.items l.ranks.items (take l.place-index (get_or l.postings l.rank []))
