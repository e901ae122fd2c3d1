use Rattle.std.proofs.Common.{◌∙◌, Bool, List, ap, get_or, set, sym, take, true}
use Rattle.std.proofs.lemmas.List.{take_more}
use Rattle.repository.specs.Stands.{marks_from}
use Rattle.repository.proofs.MarkLemmas.{mark-more, no-marks}
use Rattle.repository.proofs.segments.marks_of.Goals as goal

pub loop-id-init : goal.loop-id-init
loop-id-init c = c.in_ok-marks.ensures ∙ sym (no-marks 0 c.args.count)

pub loop-id-preserved : goal.loop-id-preserved
loop-id-preserved c =
    let i = c.loop-id.id-index in
    c.mark.ensures ∙ ap (λ (ms : List Bool). set ms (get_or c.args.ids.now i 0) true) c.loop-id.invariant ∙ mark-more c.args.count (get_or c.args.ids.now i 0) (take i c.args.ids.now) ∙ sym (ap (marks_from 0 c.args.count) (take_more c.args.ids.now i 0 c.loop-id-test.true))
