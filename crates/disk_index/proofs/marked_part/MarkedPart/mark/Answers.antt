use Rattle.std.proofs.Common.{◌<◌, ◌-◌, Bool, List, sym, subst, ◌∙◌}
use Rattle.disk_index.specs.Parts.{size, source_of}
use Rattle.disk_index.specs.Snapshots.{AreCounted, Marked}
use Rattle.disk_index.proofs.LiveLemmas.{counted-marked}
use Rattle.disk_index.proofs.marked_part.MarkedPart.mark.Goals as goal

pub overflow_sub-self : goal.overflow_sub-self
overflow_sub-self c =
    let inside : c.args.id < size (source_of c.self.inside.part) = subst (λ (m : Marked). c.args.id < size m.source) (sym c.self.view_is) c.requires in
    (counted-marked (source_of c.self.inside.part) c.self.inside.marks c.args.id c.self.inside.tokens c.self.inside.live_tokens c.from-length.result c.unless.result c.mark-was_live.result
    c.self.invariant inside (λ told. c.from-length.ensures ∙ c.length.ensures.exact told) c.mark-was_live.ensures.before c.unless.ensures).0

pub invariant_of-self : goal.invariant_of-self
invariant_of-self c =
    let inside : c.args.id < size (source_of c.self.inside.part) = subst (λ (m : Marked). c.args.id < size m.source) (sym c.self.view_is) c.requires in
    let counted = counted-marked (source_of c.self.inside.part) c.self.inside.marks c.args.id c.self.inside.tokens c.self.inside.live_tokens c.from-length.result c.unless.result c.mark-was_live.result
    c.self.invariant inside (λ told. c.from-length.ensures ∙ c.length.ensures.exact told) c.mark-was_live.ensures.before c.unless.ensures in
    subst (λ (marks : List Bool). AreCounted (source_of c.self.inside.part) marks c.self.inside.tokens (c.self.inside.live_tokens - c.unless.result)) (sym c.mark-was_live.ensures.marks) counted.1
