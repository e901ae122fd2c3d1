use Rattle.std.proofs.Common.{true, refl}
use Rattle.std.proofs.lemmas.Bool.{both_ways}
use Rattle.std.proofs.lemmas.List.Elements.{All-nil}
use Rattle.range_bounds.specs.Ranges.{range_documents}
use Rattle.range_tables.specs.Needs.{IsIdleIn}
use Rattle.range_tables.proofs.NeedLemmas.{idle_end, idle_more}
use Rattle.range_tables.proofs.needs.is_needed.Goals as goal

pub loop-leaf-init : goal.loop-leaf-init
loop-leaf-init g c = λ sound. All-nil (IsIdleIn (range_documents (g.P.Postings.documents c.args.part.now) c.args.range) c.args.term.now)

pub loop-leaf-preserved : goal.loop-leaf-preserved
loop-leaf-preserved g c = λ sound.
    idle_more (range_documents (g.P.Postings.documents c.args.part.now) c.args.range) c.args.term.now c.args.leaves.now c.loop-leaf.leaf-index c.leaf-item.result c.loop-leaf-test.true c.leaf-item.is (c.loop-leaf.invariant sound) (c.needs.ensures sound c.if-needs.false)

pub returns-then-needs : goal.returns-then-needs
returns-then-needs g c = λ sound e. absurd (both_ways true e refl)

pub returns : goal.returns
returns g c = λ sound e. idle_end (range_documents (g.P.Postings.documents c.args.part.now) c.args.range) c.args.term.now c.args.leaves.now c.loop-leaf.leaf-index c.loop-leaf-test.false (c.loop-leaf.invariant sound)
