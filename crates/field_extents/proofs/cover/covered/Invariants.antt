use Rattle.field_extents.proofs.CoverLemmas.{CoversFront}
use Rattle.field_extents.proofs.cover.covered.Given as goal

abbrev pub invariant-loop-span : goal.invariant-loop-span
invariant-loop-span l = CoversFront l.spans l.name l.window l.span-index l.count l.next
