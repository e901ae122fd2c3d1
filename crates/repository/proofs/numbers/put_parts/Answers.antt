use Rattle.std.proofs.Common.{◌∙◌, List, ℕ, ap}
use Rattle.disk_index.specs.Parts.{Source}
use Rattle.manifest.specs.Entries.{with_numbers}
use Rattle.repository.specs.States.{numbers_in}
use Rattle.repository.proofs.NumberLemmas.{put-part}
use Rattle.repository.proofs.numbers.put_parts.Goals as goal

pub loop-part-preserved : goal.loop-part-preserved
loop-part-preserved c =
    let m = c.part-item.result in
    c.in_ok-put_part.ensures ∙ ap (λ (s : Source). with_numbers c.loop-part.taken.keys (numbers_in s)) c.part.ensures.part
    ∙ ap (λ (ks : List ℕ). with_numbers ks (numbers_in m.source)) c.loop-part.invariant
    ∙ put-part c.args.taken.now.keys c.args.parts.now c.loop-part.part-index m c.loop-part-test.true c.part-item.is
