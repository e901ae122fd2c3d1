use Rattle.std.proofs.Common.{◌∙◌, ap, sym}
use Rattle.disk_index.specs.Parts.{outlines_of, source_of}
use Rattle.disk_index.specs.Snapshots.{Marked}
use Rattle.disk_index.proofs.AlikeLemmas.{counted-alike}
use Rattle.disk_index.proofs.marked_part.MarkedPart.set_part.Goals as goal

pub invariant_of-self : goal.invariant_of-self
invariant_of-self c =
    let s = c.self.inside in
    counted-alike (source_of s.part) (source_of c.args.part) (c.requires ∙ sym (ap (λ (m : Marked). outlines_of m.source) c.self.view_is)) s.marks s.tokens s.live_tokens c.self.invariant
