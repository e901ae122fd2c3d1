use Rattle.std.proofs.Common.{◌∙◌, Bool, List, ap, length, sym}
use Rattle.disk_index.specs.Parts.{Source, size}
use Rattle.repository.proofs.MarkLemmas.{length-marks}
use Rattle.repository.proofs.segments.with_marks.Goals as goal

pub new-requires : goal.new-requires
new-requires c =
    ap (λ (l : List Bool). length l) c.in_ok-marks.ensures ∙ length-marks 0 c.docs.result c.args.ids.now ∙ c.docs.ensures.size ∙ sym (ap (λ (s : Source). size s) c.in_ok-part.ensures)
