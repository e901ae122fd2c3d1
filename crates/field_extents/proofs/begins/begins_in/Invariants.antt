use Rattle.field_extents.proofs.BeginsLemmas.{CountsFront}
use Rattle.field_extents.proofs.begins.begins_in.Given as goal

abbrev pub invariant-loop-extent : goal.invariant-loop-extent
invariant-loop-extent l = CountsFront l.xs l.window l.extent-index l.count l.next
