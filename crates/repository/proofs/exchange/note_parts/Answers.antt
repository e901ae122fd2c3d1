use Rattle.std.proofs.Common.{◌∙◌, List, ℕ, ap}
use Rattle.disk_index.specs.Parts.{Source}
use Rattle.repository.specs.Merges.{all_stale}
use Rattle.repository.specs.States.{numbers_in}
use Rattle.repository.proofs.EndLemmas.{stale-part}
use Rattle.repository.proofs.exchange.note_parts.Goals as goal

pub loop-part-preserved : goal.loop-part-preserved
loop-part-preserved c =
    let m = c.part-item.result in
    c.in_ok-note_part.ensures ∙ ap (λ (s : Source). all_stale c.loop-part.stale.items (numbers_in s)) c.part.ensures.part
    ∙ ap (λ (ns : List ℕ). all_stale ns (numbers_in m.source)) c.loop-part.invariant
    ∙ stale-part c.args.stale.now.items c.args.parts.now c.loop-part.part-index m c.loop-part-test.true c.part-item.is
